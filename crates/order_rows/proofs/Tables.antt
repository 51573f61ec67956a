-- The tables of two trees compared row by row tell whether the trees show the same; and the trees that records of a sound log leave, in any
-- order, have tables whose rows are found by slots.
-- Assumes nothing.
use Prim.Native.Nat.{ℕ, zero, suc, ◌+◌, ◌-◌, ◌*◌, ◌≤◌, ◌<◌}
use native.Mathlib.Omega.{arith}
use mathlib.Core.Path.{◌≡◌, refl, sym, ap, ◌∙◌, subst}
use mathlib.Core.Logic.{inl, inr, ⊎_elim}
use mathlib.Core.Bool.{Bool, true, false, not, ◌&&◌}
use mathlib.Core.List.{List, [], ◌∷◌, ◌++◌}
use lib.Dec.{eqb}
use lib.ListN.{get_or, length}
use Rattle.model.specs.Bytes.{word, two, part, padded}
use Rattle.model.specs.Record.{Rec, identity, number_of, unit, num, identity_at}
use Rattle.model.specs.Log.{all_to}
use Rattle.model.specs.Replay.{Entry, Aside, Tree, is_present, step, empty_tree, replay_from, replay, present_ones}
use Rattle.model.specs.Table.{identity_bytes, entry_row, aside_row, entry_rows, aside_rows, table_bytes, flagged, entry_in, aside_in}
use Rattle.base_model.specs.Base.{last_to}
use Rattle.byte_slice.proofs.Numbers.{bool_cases}
use Rattle.byte_slice.proofs.Parts.{part-part, part-behind, get_d_part}
use Rattle.byte_slice.proofs.Words.{word_two, word_at, word-part}
use Rattle.log_laws.specs.Members.{Has as Member}
use Rattle.log_laws.specs.Sound.{Sound}
use Rattle.log_laws.proofs.Members.{All}
use Rattle.log_laws.proofs.Formed.{well_length}
use Rattle.log_laws.proofs.Counts.{formed, unit_of_lem, own_of, number_held}
use Rattle.log_admit.proofs.Counts.{count_few}
use Rattle.base_links.proofs.Links.{all_same}
use Rattle.tree_laws.specs.Replayed.{Has, Distinct, selves, makers, whos}
use Rattle.tree_laws.proofs.Identities.{makers_of_lem, asides_of, makers-distinct, asides_distinct}
use Rattle.tree_laws.proofs.Seen.{selves_member}
use Rattle.tree_laws.proofs.Steps.{all_present}
use Rattle.tree_laws.proofs.Tables.{Filled, filled-replay, entries_few}
use Rattle.tree_laws.proofs.Trees.{present_has}
use Rattle.tree_table.specs.Rows.{flag_of, AllProper}
use Rattle.tree_table.proofs.Writes.{flagged-long, part-entry, part-aside}
use Rattle.tree_lookup.proofs.Working.{blank_entry, blank_aside, proper_at}
use Rattle.tree_replay.proofs.Stepping.{step_grows}
use Rattle.order_model.specs.Order.{entry_alike, aside_alike, entries_among, asides_among, shown_within, shown_alike}
use Rattle.order_laws.proofs.Shown.{alike-entry, entry-alike, alike-aside, aside-alike, among_in, in_among, asides_in, in_asides}
use Rattle.order_laws.proofs.Rank.{self_num}
use Rattle.order_laws.proofs.Marks.{both_ways}
use Rattle.order_rows.specs.declared.Rows.{Rows}
use Rattle.order_rows.specs.declared.Rows.TheVariants.{Entries, Asides}
use Rattle.order_rows.specs.Compared.{Slotted, key_in, row_count, row_alike, is_key, row_by, row_shown, rows_within, table_within, tables_alike, Table}
use Rattle.order_rows.proofs.Alike.{rows_alike, asides_alike}
use Rattle.order_rows.proofs.Finding.{has_at, found_in, in_found}

-- a tree whose table has rows that are found by slots
pub record Showing (t : Tree) : Type 0 where
  pub proper : AllProper (present_ones t.entries)
  pub entries_room : length (present_ones t.entries) ≤ 1024
  pub asides_room : length t.asides ≤ 1024
  pub entries_slotted : (e : Entry) → Has e (present_ones t.entries) → Slotted e.made
  pub asides_slotted : (a : Aside) → Has a t.asides → Slotted a.who
  pub entries_once : Distinct (makers (present_ones t.entries))
  pub asides_once : Distinct (whos t.asides)

-- ---- the rows of its table

identity-part : (b : List ℕ) (at n i : ℕ) → i + 3 < n → identity_at (part b at n) i ≡ identity_at b (at + i)
unfolding identity_at
identity-part b at n i h =
    let e : at + i + 2 ≡ at + (i + 2) = omega arith in
    rw (get_d_part b at n i (omega arith), e, word-part b at n (i + 2) (omega arith))

row_made : (d : ℕ) (e : Entry) → identity_at (entry_row d e) 4 ≡ e.made
unfolding identity_at identity word entry_row identity_bytes
row_made d e = omega arith

row_who : (a : Aside) → identity_at (aside_row a) 0 ≡ a.who
unfolding identity_at identity word aside_row identity_bytes
row_who a = omega arith

module _ (t : Tree) (w : Showing t) where
  abbrev es : List Entry
  es = present_ones t.entries

  abbrev ss : List Aside
  ss = t.asides

  abbrev body : List ℕ
  body = padded 73728 (entry_rows ss es) ++ padded 12288 (aside_rows ss)

  count_entries : row_count Entries (table_bytes t) ≡ length (present_ones t.entries)
  unfolding row_count table_bytes
  count_entries = word_two (length es) (two (length ss) ++ body)

  count_asides : row_count Asides (table_bytes t) ≡ length t.asides
  unfolding row_count table_bytes
  count_asides = word_at (two (length es)) (length ss) body

  -- but for the counts it is the table while records are replayed, with its flags
  same_part : (x n : ℕ) → part (table_bytes t) (4 + x) n ≡ part (flagged ss es ss) (4 + x) n
  unfolding table_bytes flagged
  same_part x n = part-behind (two (length es) ++ two (length ss)) body x n ∙ sym (part-behind (0 ∷ 0 ∷ 0 ∷ 0 ∷ []) body x n)

  long : length (table_bytes t) ≡ 86020
  unfolding table_bytes flagged
  long = flagged-long ss es ss w.proper w.entries_room w.asides_room

  module _ (i : ℕ) (h : i < length (present_ones t.entries)) where
    entry_row_is : part (table_bytes t) (4 + 72 * i) 72 ≡ entry_row (flag_of t.asides (get_or (present_ones t.entries) i blank_entry)) (get_or (present_ones t.entries) i blank_entry)
    entry_row_is = same_part (72 * i) 72 ∙ part-entry ss es ss w.proper w.entries_room i blank_entry h

    entry_key : key_in Entries (table_bytes t) i ≡ (get_or (present_ones t.entries) i blank_entry).made
    unfolding key_in entry_in
    entry_key =
        sym (identity-part (table_bytes t) (4 + 72 * i) 72 4 (omega arith))
        ∙ ap (λ (b : List ℕ). identity_at b 4) entry_row_is
        ∙ row_made (flag_of ss (get_or es i blank_entry)) (get_or es i blank_entry)

    entry_head : part (table_bytes t) (4 + 72 * i) 12 ≡ part (entry_row (flag_of t.asides (get_or (present_ones t.entries) i blank_entry)) (get_or (present_ones t.entries) i blank_entry)) 0 12
    entry_head =
        let e : 4 + 72 * i + 0 ≡ 4 + 72 * i = omega arith in
        sym (rw e at (part-part (table_bytes t) (4 + 72 * i) 72 0 12 (omega arith))) ∙ ap (λ (b : List ℕ). part b 0 12) entry_row_is

    entry_tail : part (table_bytes t) (24 + 72 * i) 52 ≡ part (entry_row (flag_of t.asides (get_or (present_ones t.entries) i blank_entry)) (get_or (present_ones t.entries) i blank_entry)) 20 52
    entry_tail =
        let e : 4 + 72 * i + 20 ≡ 24 + 72 * i = omega arith in
        sym (rw e at (part-part (table_bytes t) (4 + 72 * i) 72 20 52 (omega arith))) ∙ ap (λ (b : List ℕ). part b 20 52) entry_row_is

  module _ (i : ℕ) (h : i < length t.asides) where
    aside-row : part (table_bytes t) (73732 + 12 * i) 12 ≡ aside_row (get_or t.asides i blank_aside)
    aside-row =
        let e : 4 + (73728 + 12 * i) ≡ 73732 + 12 * i = omega arith in
        (rw e at (same_part (73728 + 12 * i) 12)) ∙ part-aside ss es ss w.proper w.entries_room i blank_aside h

    aside_key : key_in Asides (table_bytes t) i ≡ (get_or t.asides i blank_aside).who
    unfolding key_in aside_in
    aside_key =
        let e : 73732 + 12 * i + 0 ≡ 73732 + 12 * i = omega arith in
        sym (rw e at (identity-part (table_bytes t) (73732 + 12 * i) 12 0 (omega arith)))
        ∙ ap (λ (b : List ℕ). identity_at b 0) aside-row
        ∙ row_who (get_or ss i blank_aside)

  pub shows-table : Table (table_bytes t)
  shows-table =
      record {
        entries = record {
          long = long;
          few = omega (arith, count_entries, w.entries_room);
          slots = λ i h.
              let l : i < length es = omega (arith, count_entries) in
              rw (entry_key i l) (w.entries_slotted (get_or es i blank_entry) (has_at es blank_entry i l));
        };
        asides = record {
          long = long;
          few = omega (arith, count_asides, w.asides_room);
          slots = λ i h.
              let l : i < length ss = omega (arith, count_asides) in
              rw (aside_key i l) (w.asides_slotted (get_or ss i blank_aside) (has_at ss blank_aside i l));
        };
      }

-- ---- no identity twice

made_in_lem : (l : List Entry) (e : Entry) → Has e l → Has e.made (makers l)
unfolding makers
made_in_lem [] e i = absurd i
made_in_lem (x ∷ l) e (inl q) = inl (ap (λ (y : Entry). y.made) q)
made_in_lem (x ∷ l) e (inr i) = inr (made_in_lem l e i)

who_in : (l : List Aside) (a : Aside) → Has a l → Has a.who (whos l)
unfolding whos
who_in [] a i = absurd i
who_in (x ∷ l) a (inl q) = inl (ap (λ (y : Aside). y.who) q)
who_in (x ∷ l) a (inr i) = inr (who_in l a i)

makers_lone : (l : List Entry) → Distinct (makers l) → (i j : ℕ) → i < length l → j < length l → (get_or l i blank_entry).made ≡ (get_or l j blank_entry).made → i ≡ j
unfolding makers
makers_lone [] d i j h k e = absurd (omega arith)
makers_lone (x ∷ l) d zero zero h k e = refl
makers_lone (x ∷ l) d zero (suc j) h k e =
    absurd (d.0 (subst (λ (n : ℕ). Has n (makers l)) (sym e) (made_in_lem l (get_or l j blank_entry) (has_at l blank_entry j (omega arith)))))
makers_lone (x ∷ l) d (suc i) zero h k e =
    absurd (d.0 (subst (λ (n : ℕ). Has n (makers l)) e (made_in_lem l (get_or l i blank_entry) (has_at l blank_entry i (omega arith)))))
makers_lone (x ∷ l) d (suc i) (suc j) h k e = ap suc (makers_lone l d.1 i j (omega arith) (omega arith) e)

whos_lone : (l : List Aside) → Distinct (whos l) → (i j : ℕ) → i < length l → j < length l → (get_or l i blank_aside).who ≡ (get_or l j blank_aside).who → i ≡ j
unfolding whos
whos_lone [] d i j h k e = absurd (omega arith)
whos_lone (x ∷ l) d zero zero h k e = refl
whos_lone (x ∷ l) d zero (suc j) h k e =
    absurd (d.0 (subst (λ (n : ℕ). Has n (whos l)) (sym e) (who_in l (get_or l j blank_aside) (has_at l blank_aside j (omega arith)))))
whos_lone (x ∷ l) d (suc i) zero h k e =
    absurd (d.0 (subst (λ (n : ℕ). Has n (whos l)) e (who_in l (get_or l i blank_aside) (has_at l blank_aside i (omega arith)))))
whos_lone (x ∷ l) d (suc i) (suc j) h k e = ap suc (whos_lone l d.1 i j (omega arith) (omega arith) e)

-- ---- two tables

module _ (t u : Tree) (w : Showing t) (v : Showing u) where
  abbrev xs : List Entry
  xs = present_ones t.entries

  abbrev ys : List Entry
  ys = present_ones u.entries

  abbrev alike : Entry → Entry → Bool
  alike = entry_alike t.asides u.asides

  abbrev a : List ℕ
  a = table_bytes t

  abbrev b : List ℕ
  b = table_bytes u

  shown_by : (p : Rows) (i n : ℕ) → row_count p (table_bytes u) ≡ n
      → row_shown p (table_bytes t) (table_bytes u) i ≡ (not (eqb (last_to (is_key p (table_bytes u) (key_in p (table_bytes t) i)) n) 0) && row_alike p (table_bytes t) i (table_bytes u) (last_to (is_key p (table_bytes u) (key_in p (table_bytes t) i)) n - 1))
  unfolding row_shown row_by
  shown_by p i n e = rw e

  entry_test : (i j : ℕ) → i < length (present_ones t.entries) → j < length (present_ones u.entries)
      → is_key Entries (table_bytes u) (key_in Entries (table_bytes t) i) j ≡ eqb (get_or (present_ones u.entries) j blank_entry).made (get_or (present_ones t.entries) i blank_entry).made
  unfolding is_key
  entry_test i j h k = rw (entry_key t w i h, entry_key u v j k)

  entry_same : (i j : ℕ) → i < length (present_ones t.entries) → j < length (present_ones u.entries)
      → row_alike Entries (table_bytes t) i (table_bytes u) j ≡ entry_alike t.asides u.asides (get_or (present_ones t.entries) i blank_entry) (get_or (present_ones u.entries) j blank_entry)
  unfolding row_alike
  entry_same i j h k =
      rw (entry_head t w i h, entry_head u v j k, entry_tail t w i h, entry_tail u v j k)
      (rows_alike t.asides u.asides (get_or xs i blank_entry) (get_or ys j blank_entry) (proper_at xs i blank_entry h w.proper) (proper_at ys j blank_entry k v.proper))

  entries_keys : (e f : Entry) → entry_alike t.asides u.asides e f ≡ true → e.made ≡ f.made
  entries_keys e f h = (alike-entry t.asides u.asides e f h).same_made

  -- where row i of t stands in u, and whether it shows the same
  abbrev entry_place : ℕ → ℕ
  entry_place i = last_to (is_key Entries (table_bytes u) (key_in Entries (table_bytes t) i)) (length (present_ones u.entries))

  abbrev entry-shown : ℕ → Bool
  entry-shown i = not (eqb (entry_place i) 0) && row_alike Entries (table_bytes t) i (table_bytes u) (entry_place i - 1)

  entries_by : rows_within Entries (table_bytes t) (table_bytes u) ≡ all_to (length (present_ones t.entries)) entry-shown
  unfolding rows_within
  entries_by = rw (count_entries t w) (all_same (length xs) (row_shown Entries (table_bytes t) (table_bytes u)) entry-shown (λ i h. shown_by Entries i (length ys) (count_entries u v)))

  entries_are : rows_within Entries (table_bytes t) (table_bytes u) ≡ entries_among t.asides u.asides (present_ones t.entries) (present_ones u.entries)
  entries_are =
      entries_by
      ∙ both_ways (all_to (length xs) entry-shown) (entries_among t.asides u.asides xs ys)
      (λ h. in_among t.asides u.asides xs ys (λ e i.
      let (f, j, q) = found_in xs ys blank_entry (λ x. x.made) alike entries_keys (makers_lone ys v.entries_once) (λ i. is_key Entries b (key_in Entries a i)) (λ i j. row_alike Entries a i b j) entry_test entry_same h e i in
      (f, j, alike-entry t.asides u.asides e f q)))
      (λ h. in_found xs ys blank_entry (λ x. x.made) alike entries_keys (makers_lone ys v.entries_once) (λ i. is_key Entries b (key_in Entries a i)) (λ i j. row_alike Entries a i b j) entry_test entry_same (λ e i.
      let (f, j, q) = among_in t.asides u.asides xs ys h e i in
      (f, j, entry-alike t.asides u.asides e f q)))

  aside_test : (i j : ℕ) → i < length t.asides → j < length u.asides
      → is_key Asides (table_bytes u) (key_in Asides (table_bytes t) i) j ≡ eqb (get_or u.asides j blank_aside).who (get_or t.asides i blank_aside).who
  unfolding is_key
  aside_test i j h k = rw (aside_key t w i h, aside_key u v j k)

  aside_same : (i j : ℕ) → i < length t.asides → j < length u.asides
      → row_alike Asides (table_bytes t) i (table_bytes u) j ≡ aside_alike (get_or t.asides i blank_aside) (get_or u.asides j blank_aside)
  unfolding row_alike
  aside_same i j h k =
      rw (aside-row t w i h, aside-row u v j k) (asides_alike (get_or t.asides i blank_aside) (get_or u.asides j blank_aside))

  asides_keys : (x y : Aside) → aside_alike x y ≡ true → x.who ≡ y.who
  asides_keys x y h = ap (λ (z : Aside). z.who) (alike-aside x y h)

  abbrev aside-place : ℕ → ℕ
  aside-place i = last_to (is_key Asides (table_bytes u) (key_in Asides (table_bytes t) i)) (length u.asides)

  abbrev aside-shown : ℕ → Bool
  aside-shown i = not (eqb (aside-place i) 0) && row_alike Asides (table_bytes t) i (table_bytes u) (aside-place i - 1)

  asides_by : rows_within Asides (table_bytes t) (table_bytes u) ≡ all_to (length t.asides) aside-shown
  unfolding rows_within
  asides_by = rw (count_asides t w) (all_same (length t.asides) (row_shown Asides (table_bytes t) (table_bytes u)) aside-shown (λ i h. shown_by Asides i (length u.asides) (count_asides u v)))

  asides_are : rows_within Asides (table_bytes t) (table_bytes u) ≡ asides_among t.asides u.asides
  asides_are =
      asides_by
      ∙ both_ways (all_to (length t.asides) aside-shown) (asides_among t.asides u.asides)
      (λ h. in_asides t.asides u.asides (λ x i.
      let (y, j, q) = found_in t.asides u.asides blank_aside (λ z. z.who) aside_alike asides_keys (whos_lone u.asides v.asides_once) (λ i. is_key Asides b (key_in Asides a i)) (λ i j. row_alike Asides a i b j) aside_test aside_same h x i in
      subst (λ (z : Aside). Has z u.asides) (sym (alike-aside x y q)) j))
      (λ h. in_found t.asides u.asides blank_aside (λ z. z.who) aside_alike asides_keys (whos_lone u.asides v.asides_once) (λ i. is_key Asides b (key_in Asides a i)) (λ i j. row_alike Asides a i b j) aside_test aside_same (λ x i.
      (x, asides_in t.asides u.asides h x i, aside-alike x x refl)))

  within_is : table_within (table_bytes t) (table_bytes u) ≡ shown_within t u
  unfolding table_within shown_within
  within_is = rw (entries_are, asides_are)

pub alike_is : (t u : Tree) → Showing t → Showing u → tables_alike (table_bytes t) (table_bytes u) ≡ shown_alike t u
unfolding tables_alike shown_alike
alike_is t u w v = rw (within_is t u w v, within_is u t v w)

-- ---- the trees of records of a sound log

present_names : (l : List Entry) (k : ℕ) → Has k (makers (present_ones l)) → Has k (makers l)
unfolding present_ones makers
present_names [] k i = i
present_names (x ∷ l) k i =
    ⊎_elim
    (λ (c : is_present x ≡ true). ⊎_elim (λ q. inl q) (λ j. inr (present_names l k j)) (rw c at i))
    (λ (c : is_present x ≡ false). inr (present_names l k (rw c at i)))
    (bool_cases (is_present x))

present_distinct : (l : List Entry) → Distinct (makers l) → Distinct (makers (present_ones l))
unfolding present_ones makers
present_distinct [] d = tt
present_distinct (x ∷ l) d =
    ⊎_elim
    (λ (c : is_present x ≡ true). rw c (λ i. d.0 (present_names l x.made i), present_distinct l d.1))
    (λ (c : is_present x ≡ false). rw c (present_distinct l d.1))
    (bool_cases (is_present x))

asides_grow : (t : Tree) (m : List Rec) → length (replay_from t m).asides ≤ length t.asides + length m
unfolding replay_from
asides_grow t [] = omega arith
asides_grow t (r ∷ m) = omega (arith, asides_grow (step t r) m, (step_grows t r).1)

asides_few : (m : List Rec) → length (replay m).asides ≤ length m
unfolding replay empty_tree
asides_few m = omega (arith, asides_grow empty_tree m)

proper_of : (l : List Entry) → All Filled l → ((e : Entry) → Has e l → Slotted e.made) → AllProper l
proper_of [] f s = tt
proper_of (e ∷ l) f s =
    let k = s e (inl refl) in
    let n1 = k.some in
    let n2 = k.few in (
      record {
        range = record { low = omega arith; high = omega arith };
        date_long = f.0.0;
        label_long = f.0.1;
        mark_long = f.0.2;
      },
      proper_of l f.1 (λ x i. s x (inr i)),
    )

module _ (l m : List Rec) (s : Sound l) (few : length l ≤ 512) (sub : (r : Rec) → Member r m → Member r l) (d : Distinct (selves m)) (n : length m ≤ 512) where
  self_slotted : (k : ℕ) → Has k (selves m) → Slotted k
  self_slotted k i =
      let (r, j, q) = selves_member m k i in
      let g = sub r j in
      let c : number_of k ≡ num r = ap (λ (x : ℕ). number_of x) q ∙ self_num r (unit_of_lem [] l r s g) in
      record { some = omega (arith, own_of [] l r s g); few = omega (arith, number_held l r s g, count_few (unit r) l) }

  entry_slotted : (e : Entry) → Has e (present_ones (replay m).entries) → Slotted e.made
  entry_slotted e i = self_slotted e.made (makers_of_lem m e.made (made_in_lem (replay m).entries e (present_has (replay m).entries e i).0))

  all_filled : All Filled (replay m).entries
  unfolding replay empty_tree
  all_filled = filled-replay empty_tree m (λ r i. well_length r (formed [] l r s (sub r i))) tt

  pub replay_showing : Showing (replay m)
  replay_showing =
      record {
        proper = proper_of (present_ones (replay m).entries) (all_present Filled (replay m).entries all_filled) entry_slotted;
        entries_room = omega (arith, entries_few m);
        asides_room = omega (arith, asides_few m);
        entries_slotted = entry_slotted;
        asides_slotted = λ x i. self_slotted x.who (asides_of m x.who (who_in (replay m).asides x i));
        entries_once = present_distinct (replay m).entries (makers-distinct m d);
        asides_once = asides_distinct m d;
      }
