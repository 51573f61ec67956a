-- The report says of the trees of two states exactly the entries that become disputed.
-- Assumes nothing.
use Prim.Native.Nat.{ℕ, zero, suc, ◌+◌, ◌-◌, ◌*◌, ◌≤◌, ◌<◌}
use native.Mathlib.Omega.{arith}
use mathlib.Core.Path.{◌≡◌, refl, sym, ap, ◌∙◌}
use mathlib.Core.Logic.{inl, inr, ⊎_elim}
use mathlib.Core.Bool.{Bool, true, false, cond, not, ◌&&◌, ◌||◌, true≢false, false≢true}
use mathlib.Core.List.{List, [], ◌∷◌, ◌++◌, append_assoc, append-nil}
use lib.Dec.{eqb}
use lib.ListN.{get_or, length, take, replicate, length-append}
use lib.Seq.{take-suc, take_all}
use borrow.Author.Tests.{eqb-true, eq-eqb}
use Rattle.model.specs.Bytes.{word, two, part, padded}
use Rattle.model.specs.Vector.{vector_bytes}
use Rattle.model.specs.Replay.{Entry, Tree, is_disputed, present_ones}
use Rattle.model.specs.Table.{identity_bytes, entry_row, entry_rows, aside_rows, table_bytes, entry_in}
use Rattle.base_model.specs.Base.{held_on, sound_state, tree_of}
use Rattle.row_model.specs.Row.{tried, has_disputed, newly_disputed, became_disputed, made_bytes, report_bytes}
use Rattle.byte_slice.proofs.Numbers.{lt_or_ge, bool_cases, or_true}
use Rattle.byte_slice.proofs.Parts.{get_d_part, part_front, part-behind}
use Rattle.byte_slice.proofs.Words.{word_two}
use Rattle.row_laws.specs.Disputes.{HasEntry}
use Rattle.row_laws.proofs.Disputes.{disputed_has, has_disputed_lem}
use Rattle.tree_table.specs.Rows.{AllProper, flag_of, entries_from}
use Rattle.tree_table.proofs.Rows.{rows_length, entries_back}
use Rattle.tree_table.proofs.Writes.{rows_part}
use Rattle.tree_lookup.proofs.Working.{proper_at, entries_at}
use Rattle.index_state.proofs.States.{shown_few, state_proper}
use Rattle.try_row_report.specs.Listed.{disputed_in, made_in, Shown, noted, is_among, is_new_in, listed_count, listed}
use Rattle.try_row_report.proofs.Listing.{among_append}

-- ---- what is noted

or_right : (t : Bool) → (t || true) ≡ true
or_right true = refl
or_right false = refl

module _ (b : List ℕ) where
  -- an identity that is noted is that of a disputed entry
  noted_from : (n k : ℕ) → is_among k (noted b n) ≡ true → (i : ℕ) × (i < n) × (disputed_in b i ≡ true) × (made_in b i ≡ k)
  unfolding noted is_among
  noted_from zero k h = absurd (false≢true h)
  noted_from (suc n) k h =
      ⊎_elim
      (λ (d : disputed_in b n ≡ true).
      ⊎_elim
      (λ (x : is_among k (noted b n) ≡ true). let (i, l, g, q) = noted_from n k x in (i, omega arith, g, q))
      (λ (x : (eqb (made_in b n) k || false) ≡ true).
      ⊎_elim
      (λ (y : eqb (made_in b n) k ≡ true). (n, omega arith, d, eqb-true (made_in b n) k y))
      (λ (y : false ≡ true). absurd (false≢true y))
      (or_true (eqb (made_in b n) k) false x))
      (or_true (is_among k (noted b n)) (eqb (made_in b n) k || false) (sym (among_append k (noted b n) (made_in b n ∷ [])) ∙ (rw d at h))))
      (λ (d : disputed_in b n ≡ false). let (i, l, g, q) = noted_from n k (rw d at h) in (i, omega arith, g, q))
      (bool_cases (disputed_in b n))

  -- and that of every disputed entry is noted
  noted_to : (n i : ℕ) → i < n → disputed_in b i ≡ true → is_among (made_in b i) (noted b n) ≡ true
  unfolding noted is_among
  noted_to zero i h d = absurd (omega arith)
  noted_to (suc n) i h d =
      ⊎_elim
      (λ (x : i < n).
      ⊎_elim
      (λ (g : disputed_in b n ≡ true). rw (g, among_append (made_in b i) (noted b n) (made_in b n ∷ []), noted_to n i x d))
      (λ (g : disputed_in b n ≡ false). rw g (noted_to n i x d))
      (bool_cases (disputed_in b n)))
      (λ (x : n ≤ i).
      let q : i ≡ n = omega arith in
      let g : disputed_in b n ≡ true = rw q at d in
      rw (q, g, among_append (made_in b n) (noted b n) (made_in b n ∷ []), eq-eqb (made_in b n) (made_in b n) refl) (or_right (is_among (made_in b n) (noted b n))))
      (lt_or_ge i n)

-- ---- the rows of a table

none : Entry
none = record { made = 0; kind = 0; inside = 0; label = []; contents = 0; date = []; mark = []; placing = 0 }

flag_of_lem : (d : ℕ) (e : Entry) → get_or (entry_row d e) 1 0 ≡ d
unfolding entry_row
flag_of_lem d e = refl

flag_true : (t : Bool) → eqb (cond t 1 0) 1 ≡ t
flag_true true = refl
flag_true false = refl

has_at : (l : List Entry) (i : ℕ) → i < length l → HasEntry (get_or l i none) l
has_at [] i h = absurd (omega arith)
has_at (x ∷ l) zero h = inl refl
has_at (x ∷ l) (suc i) h = inr (has_at l i (omega arith))

at_has : (l : List Entry) (e : Entry) → HasEntry e l → (i : ℕ) × (i < length l) × (get_or l i none ≡ e)
at_has [] e h = absurd h
at_has (x ∷ l) e (inl q) = (0, omega arith, sym q)
at_has (x ∷ l) e (inr h) = let (i, a, q) = at_has l e h in (suc i, omega arith, q)

module _ (t : Tree) (a : AllProper (present_ones t.entries)) where
  abbrev es : List Entry
  es = present_ones t.entries

  abbrev rows : List ℕ
  rows = entry_rows t.asides es

  -- what stands behind the rows of entries
  abbrev behind : List ℕ
  behind = replicate (73728 - length rows) 0 ++ padded 12288 (aside_rows t.asides)

  laid : table_bytes t ≡ (two (length es) ++ two (length t.asides)) ++ (rows ++ behind)
  unfolding table_bytes padded
  laid =
      ap (λ (x : List ℕ). (two (length es) ++ two (length t.asides)) ++ x)
      (append_assoc rows (replicate (73728 - length rows) 0) (padded 12288 (aside_rows t.asides)))

  count : word (table_bytes t) 0 ≡ length es
  count = rw laid (word_two (length es) (two (length t.asides) ++ (rows ++ behind)))

  entries_are : entries_from (table_bytes t) 0 (length es) ≡ es
  entries_are = rw laid (entries_back t.asides es (two (length es) ++ two (length t.asides)) behind 0 refl a)

  module _ (i : ℕ) (h : i < length es) where
    entry : entry_in (table_bytes t) (4 + 72 * i) ≡ get_or es i none
    entry =
        let z : 0 + i ≡ i = omega arith in
        (rw z at (sym (entries_at (table_bytes t) 0 (length es) i none h))) ∙ ap (λ (l : List Entry). get_or l i none) entries_are

    row : part (table_bytes t) (4 + 72 * i) 72 ≡ entry_row (flag_of t.asides (get_or es i none)) (get_or es i none)
    row =
        rw laid
        (part-behind (two (length es) ++ two (length t.asides)) (rows ++ behind) (72 * i) 72
        ∙ part_front rows behind (72 * i) 72 (omega (arith, rows_length t.asides es a))
        ∙ rows_part t.asides es i none h a)

    made_is : made_in (table_bytes t) i ≡ (get_or es i none).made
    unfolding made_in
    made_is = ap (λ (e : Entry). e.made) entry

    disputed_is : disputed_in (table_bytes t) i ≡ is_disputed (get_or es i none).made t.asides
    unfolding disputed_in
    disputed_is =
        let n : 4 + 72 * i + 1 ≡ 5 + 72 * i = omega arith in
        let g : get_or (part (table_bytes t) (4 + 72 * i) 72) 1 0 ≡ get_or (table_bytes t) (4 + 72 * i + 1) 0 = get_d_part (table_bytes t) (4 + 72 * i) 72 1 (omega arith) in
        rw (← n, ← g, row, flag_of_lem (flag_of t.asides (get_or es i none)) (get_or es i none)) (flag_true (is_disputed (get_or es i none).made t.asides))

  pub table_shown : (b : List ℕ) → b ≡ table_bytes t → length b ≡ 86020 → length es ≤ 1024 → Shown b
  table_shown b is long few =
      record {
        long = long;
        few = rw is (omega (arith, count));
        range = λ i h.
            let l : i < length es = omega (arith, count, (rw is at h)) in
            rw (is, made_is i l) (proper_at es i none l a).range;
      }

  -- ---- the identities noted of a tree are those of its disputed entries

  abbrev notes : List ℕ
  notes = noted (table_bytes t) (word (table_bytes t) 0)

  noted_exact : (k : ℕ) → is_among k notes ≡ has_disputed k t
  noted_exact k =
      ⊎_elim
      (λ (h : has_disputed k t ≡ true).
      let (e, d, m) = disputed_has k t h in
      let (i, l, q) = at_has (present_ones t.entries) e d.there in
      let p : made_in (table_bytes t) i ≡ k = made_is i l ∙ ap (λ (x : Entry). x.made) q ∙ m in
      let g : disputed_in (table_bytes t) i ≡ true = disputed_is i l ∙ ap (λ (x : Entry). is_disputed x.made t.asides) q ∙ d.disputed in
      rw h (rw p at (noted_to (table_bytes t) (word (table_bytes t) 0) i (omega (arith, count)) g)))
      (λ (h : has_disputed k t ≡ false).
      ⊎_elim
      (λ (z : is_among k (noted (table_bytes t) (word (table_bytes t) 0)) ≡ true).
      let (i, l, g, q) = noted_from (table_bytes t) (word (table_bytes t) 0) k z in
      let n : i < length (present_ones t.entries) = omega (arith, count) in
      absurd (true≢false (sym (has_disputed_lem k t (get_or (present_ones t.entries) i none) (record { there = has_at (present_ones t.entries) i n; disputed = sym (disputed_is i n) ∙ g }) (sym (made_is i n) ∙ q)) ∙ h)))
      (λ (z : is_among k (noted (table_bytes t) (word (table_bytes t) 0)) ≡ false). z ∙ sym h)
      (bool_cases (is_among k (noted (table_bytes t) (word (table_bytes t) 0)))))
      (bool_cases (has_disputed k t))

-- ---- the list

newly_append : (t t' : Tree) (a b : List Entry) → newly_disputed t t' (a ++ b) ≡ newly_disputed t t' a ++ newly_disputed t t' b
unfolding newly_disputed
newly_append t t' [] b = refl
newly_append t t' (e ∷ a) b = go (is_disputed e.made t'.asides && not (has_disputed e.made t)) (newly_append t t' a b)
  where
    go : (x : Bool) → newly_disputed t t' (a ++ b) ≡ newly_disputed t t' a ++ newly_disputed t t' b
        → cond x (e ∷ newly_disputed t t' (a ++ b)) (newly_disputed t t' (a ++ b)) ≡ cond x (e ∷ newly_disputed t t' a) (newly_disputed t t' a) ++ newly_disputed t t' b
    go true h = rw h
    go false h = h

made_append : (a b : List Entry) → made_bytes (a ++ b) ≡ made_bytes a ++ made_bytes b
unfolding made_bytes
made_append [] b = refl
made_append (e ∷ a) b = rw (made_append a b) (sym (append_assoc (identity_bytes e.made) (made_bytes a) (made_bytes b)))

grow_list : (l : List Entry) (e : Entry) (k : ℕ) (y : Bool) → k ≡ e.made → cond y (made_bytes l ++ identity_bytes k) (made_bytes l) ≡ made_bytes (l ++ cond y (e ∷ []) [])
unfolding made_bytes
grow_list l e k true q = rw q (ap (λ (x : List ℕ). made_bytes l ++ x) (sym (append-nil (identity_bytes e.made))) ∙ sym (made_append l (e ∷ [])))
grow_list l e k false q = rw (append-nil l)

grow_count : (l : List Entry) (e : Entry) (y : Bool) → cond y (length l + 1) (length l) ≡ length (l ++ cond y (e ∷ []) [])
grow_count l e true = sym (length-append l (e ∷ []))
grow_count l e false = rw (append-nil l)

one_more : (t t' : Tree) (l : List Entry) (n : ℕ) → n < length l → newly_disputed t t' (take (suc n) l) ≡ newly_disputed t t' (take n l) ++ newly_disputed t t' (get_or l n none ∷ [])
one_more t t' l n h = rw (take-suc l n none h) (newly_append t t' (take n l) (get_or l n none ∷ []))

module _ (t t' : Tree) (a : AllProper (present_ones t.entries)) (a' : AllProper (present_ones t'.entries)) where
  abbrev before : List ℕ
  before = noted (table_bytes t) (word (table_bytes t) 0)

  abbrev es' : List Entry
  es' = present_ones t'.entries

  new_is : (i : ℕ) → i < length es' → is_new_in (table_bytes t') before i ≡ (is_disputed (get_or es' i none).made t'.asides && not (has_disputed (get_or es' i none).made t))
  unfolding is_new_in
  new_is i h = rw (disputed_is t' a' i h, made_is t' a' i h, noted_exact t a (get_or (present_ones t'.entries) i none).made)

  listed_is : (n : ℕ) → n ≤ length es' → listed (table_bytes t') before n ≡ made_bytes (newly_disputed t t' (take n es'))
  unfolding listed newly_disputed made_bytes
  listed_is zero h = refl
  listed_is (suc n) h =
      let e : Entry = get_or es' n none in
      rw (one_more t t' es' n (omega arith), new_is n (omega arith), listed_is n (omega arith))
      (grow_list (newly_disputed t t' (take n es')) e (made_in (table_bytes t') n) (is_disputed e.made t'.asides && not (has_disputed e.made t)) (made_is t' a' n (omega arith)))

  counted_is : (n : ℕ) → n ≤ length es' → listed_count (table_bytes t') before n ≡ length (newly_disputed t t' (take n es'))
  unfolding listed_count newly_disputed
  counted_is zero h = refl
  counted_is (suc n) h =
      let e : Entry = get_or es' n none in
      rw (one_more t t' es' n (omega arith), new_is n (omega arith), counted_is n (omega arith))
      (grow_count (newly_disputed t t' (take n es')) e (is_disputed e.made t'.asides && not (has_disputed e.made t)))

  whole : take (word (table_bytes t') 0) es' ≡ es'
  whole = take_all (word (table_bytes t') 0) (present_ones t'.entries) (omega (arith, count t' a'))

  list_is : listed (table_bytes t') (noted (table_bytes t) (word (table_bytes t) 0)) (word (table_bytes t') 0) ≡ made_bytes (became_disputed t t')
  unfolding became_disputed
  list_is = listed_is (word (table_bytes t') 0) (omega (arith, count t' a')) ∙ rw whole

  count_is : listed_count (table_bytes t') (noted (table_bytes t) (word (table_bytes t) 0)) (word (table_bytes t') 0) ≡ length (became_disputed t t')
  unfolding became_disputed
  count_is = counted_is (word (table_bytes t') 0) (omega (arith, count t' a')) ∙ rw whole

-- ---- the trees of sound states whose counts are numbers of 16 bits

abbrev pub Counted : List ℕ → List ℕ → Type 0
Counted log base = (u : ℕ) → u < 8 → get_or (held_on log base) u 0 < 65536

pub tree_shown : (log base b : List ℕ) → length base ≡ 43032 → sound_state log base ≡ true → Counted log base → b ≡ table_bytes (tree_of log base) → length b ≡ 86020 → Shown b
tree_shown log base b long sound small is n = table_shown (tree_of log base) (state_proper log base long sound small) b is n (shown_few log base long sound)

module _ (log copy base : List ℕ) (long : length base ≡ 43032) (sound : sound_state log base ≡ true) (sound' : sound_state copy base ≡ true) (small : Counted log base) (small' : Counted copy base) where
  pub told : (k n : ℕ) (v l b r : List ℕ) → b ≡ table_bytes (tree_of copy base) → l ≡ noted (table_bytes (tree_of log base)) (word (table_bytes (tree_of log base)) 0) → v ≡ held_on copy base
      → r ≡ (k ∷ n ∷ two (listed_count b l (word b 0))) ++ (vector_bytes v ++ padded 4096 (listed b l (word b 0)))
      → r ≡ report_bytes (tried k n copy) (held_on copy base) (tree_of log base) (tree_of copy base)
  unfolding report_bytes
  told k n v l b r is p q e =
      let a = state_proper log base long sound small in
      let a' = state_proper copy base long sound' small' in
      e ∙ rw (is, p, q, list_is (tree_of log base) (tree_of copy base) a a', count_is (tree_of log base) (tree_of copy base) a a')
