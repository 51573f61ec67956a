-- One entry or one aside more: its row in the table, and its role in the register.
-- Assumes nothing.
use Prim.Native.Nat.{ℕ, ◌+◌, ◌-◌, ◌*◌, ◌≤◌, ◌<◌}
use native.Mathlib.Omega.{arith}
use mathlib.Core.Path.{◌≡◌, refl, sym, ap, ◌∙◌, subst}
use mathlib.Core.Logic.{◌⊎◌, inl, inr, ⊎_elim}
use mathlib.Core.List.{List, [], ◌∷◌, ◌++◌}
use lib.ListN.{length, take, drop}
use borrow.Rule.Slice.PartMut.{put_mid}
use Rattle.model.specs.Bytes.{part, put_at}
use Rattle.model.specs.Record.{identity_at}
use Rattle.model.specs.Replay.{is_disputed}
use Rattle.model.specs.Table.{entry_row, aside_row, flagged, work_bytes, entry_in, aside_in}
use Rattle.base_model.specs.Base.{base_entry, base_aside, base_entries, base_asides}
use Rattle.byte_slice.proofs.Numbers.{eq_or_ne}
use Rattle.byte_slice.proofs.Parts.{part_is, part-part, part_length, get_d_part}
use Rattle.byte_slice.proofs.Words.{word-part}
use Rattle.byte_slice.proofs.PutAt.{mid_put}
use Rattle.tree_table.specs.Rows.{Proper, AllProper}
use Rattle.tree_table.proofs.Rows.{row-length, aside_row_length}
use Rattle.tree_table.proofs.Writes.{flagged-long, add-entry, add-aside}
use Rattle.hash_chains.specs.Chains.{nodes_in, Chains}
use Rattle.tree_maps.specs.Keys.{named}
use Rattle.tree_maps.proofs.Keeping.{named-long, named-behind}
use Rattle.tree_lookup.specs.Roles.{row_from, note_from, row_of, note_of, behind_rows, role_of, Named}
use Rattle.tree_effect.proofs.Additions.{named_make, named-aside}
use Rattle.tree_amend.specs.Effects.{with_entries, with_asides}
use Rattle.base_load.specs.Loading.{Ranged, Noted, Loads, Loading, tree_to, loaded_row, loaded_aside}
use Rattle.base_load.proofs.Rows.{loaded-row, loaded-aside}
use Rattle.base_load.proofs.Listed.{entries_next, asides_next, entries_long, asides_long, no_row, no_note, all_proper, row_of_lem}

-- ---- the bytes of a row by themselves

module _ (b : List ℕ) (at : ℕ) where
  identity-part : (n i : ℕ) → i + 3 < n → identity_at (part b at n) i ≡ identity_at b (at + i)
  unfolding identity_at
  identity-part n i h =
      let z : at + (i + 2) ≡ at + i + 2 = omega arith in
      rw (get_d_part b at n i (omega arith), word-part b at n (i + 2) (omega arith), z)

  pub entry-part : entry_in (part b at 72) 0 ≡ entry_in b at
  unfolding entry_in
  entry-part =
      let z : at + 0 ≡ at = omega arith in
      rw (
        identity-part 72 4 (omega arith),
        identity-part 72 8 (omega arith),
        identity-part 72 12 (omega arith),
        identity-part 72 16 (omega arith),
        get_d_part b at 72 0 (omega arith),
        z,
        part-part b at 72 24 32 (omega arith),
        part-part b at 72 20 4 (omega arith),
        part-part b at 72 56 16 (omega arith),
      )

  pub aside-part : aside_in (part b at 12) 0 ≡ aside_in b at
  unfolding aside_in
  aside-part =
      let z : at + 0 ≡ at = omega arith in
      rw (identity-part 12 0 (omega arith), identity-part 12 8 (omega arith), get_d_part b at 12 4 (omega arith), get_d_part b at 12 5 (omega arith), z)

entry_here : (b : List ℕ) (i : ℕ) → entry_in (part b (24 + 72 * i) 72) 0 ≡ base_entry b i
unfolding base_entry
entry_here b i = entry-part b (24 + 72 * i)

aside_here : (b : List ℕ) (j : ℕ) → aside_in (part b (36888 + 12 * j) 12) 0 ≡ base_aside b j
unfolding base_aside
aside_here b j = aside-part b (36888 + 12 * j)

pub made_is : (b : List ℕ) (i : ℕ) → (base_entry b i).made ≡ identity_at b (24 + 72 * i + 4)
unfolding base_entry entry_in
made_is b i = refl

pub who_is : (b : List ℕ) (j : ℕ) → (base_aside b j).who ≡ identity_at b (36888 + 12 * j)
unfolding base_aside aside_in
who_is b j = refl

-- ---- what a base that loads tells

module _ (b : List ℕ) (n m : ℕ) (w : Loads b n m) where
  pub entry_proper : (i : ℕ) → i < n → Proper (base_entry b i)
  unfolding base_entry entry_in
  entry_proper i h =
      record {
        range = (w.rows i h).own;
        date_long = part_length b (24 + 72 * i + 20) 4 (omega (arith, w.long, w.few));
        label_long = part_length b (24 + 72 * i + 24) 32 (omega (arith, w.long, w.few));
        mark_long = part_length b (24 + 72 * i + 56) 16 (omega (arith, w.long, w.few));
      }

  pub proper_to : (i : ℕ) → i ≤ n → AllProper (base_entries b 0 i)
  proper_to i h = all_proper b 0 i (λ j f g. entry_proper j (omega arith))

  pub apart_to : (i j k : ℕ) → i ≤ n → j ≤ m → (row_of k (tree_to b i j) ≡ 0) ⊎ (note_of k (tree_to b i j) ≡ 0)
  unfolding row_of note_of tree_to
  apart_to i j k h g =
      ⊎_elim (λ z. inl z)
      (λ z.
      let (x, f, l, q) = row_of_lem b k 0 0 i z in
      inr (no_note b k 0 0 j (λ y u v e. w.not_both x y (omega arith) (omega arith) (q ∙ sym e))))
      (eq_or_ne (row_from k 0 (base_entries b 0 i)) 0)

  fresh-entry : (i : ℕ) → i < n → role_of (base_entry b i).made (tree_to b i 0) ≡ 0
  unfolding role_of row_of note_of tree_to behind_rows base_asides note_from
  fresh-entry i h = rw (no_row b (base_entry b i).made 0 0 i (λ j f g e. w.once j i (omega arith) h e))

  fresh-aside : (j : ℕ) → j < m → role_of (base_aside b j).who (tree_to b n j) ≡ 0
  unfolding role_of row_of note_of tree_to behind_rows
  fresh-aside j h =
      rw (no_row b (base_aside b j).who 0 0 n (λ i f g e. w.not_both i j (omega arith) h e), no_note b (base_aside b j).who 0 0 j (λ i f g e. w.notes_once i j (omega arith) h e))

  -- an entry more
  module _ (table register : List ℕ) (i : ℕ) (o : Loading b table register i 0) (h : i < n) where
    pub entry-loaded : (ys : List ℕ)
        → ys ≡ loaded_row (take (4 + 72 * i + 72 - (4 + 72 * i)) (drop (4 + 72 * i) table)) (take (24 + 72 * i + 72 - (24 + 72 * i)) (drop (24 + 72 * i) b))
        → (k : ℕ) → k ≡ identity_at b (24 + 72 * i + 4) → (l : List ℕ) → l ≡ named register k (i + 1)
        → Loading b (put_mid (4 + 72 * i) (4 + 72 * i + 72 - (4 + 72 * i)) table ys) l (i + 1) 0
    unfolding tree_to work_bytes is_disputed with_entries
    entry-loaded ys y k q l g =
        let e = base_entry b i in
        let es = base_entries b 0 i in
        let t = tree_to b i 0 in
        let few = w.few in
        let n0 = entries_long b 0 i in
        let proper = proper_to i (omega arith) in
        let fit = entry_proper i h in
        let m0 = asides_long b 0 0 in
        let tl : length table ≡ 86020 = ap (λ (x : List ℕ). length x) o.bytes ∙ flagged-long [] es (base_asides b 0 0) proper (omega arith) (omega arith) in
        let bl : length (part b (24 + 72 * i) 72) ≡ 72 = part_length b (24 + 72 * i) 72 (omega (arith, w.long)) in
        let cl : length (part table (4 + 72 * i) 72) ≡ 72 = part_length table (4 + 72 * i) 72 (omega arith) in
        let z : ys ≡ entry_row 0 e =
        y ∙ rw (part_is table (4 + 72 * i) 72, part_is b (24 + 72 * i) 72, loaded-row (part b (24 + 72 * i) 72) bl (part table (4 + 72 * i) 72) cl, entry_here b i) in
        let made : k ≡ e.made = q ∙ sym (made_is b i) in
        let c = o.named.chains in
        let r0 : nodes_in 0 register < 1536 = omega (arith, o.named.count) in
        let long : put_mid (4 + 72 * i) (4 + 72 * i + 72 - (4 + 72 * i)) table ys ≡ put_at table (4 + 72 * i) (entry_row 0 e) =
        mid_put (4 + 72 * i) 72 table ys (ap (λ (x : List ℕ). length x) z ∙ row-length 0 e fit) ∙ rw z in
        let step : Named (named register e.made (length es + 1)) (with_entries t (es ++ (e ∷ []))) =
        (named_make register t o.named (omega arith) (λ k₁. apart_to i 0 k₁ (omega arith) (omega arith)) (omega arith) e (omega arith) (fresh-entry i h)) in
        record {
          bytes =
              long
              ∙ rw (o.bytes, entries_next b i)
              (subst (λ (x : ℕ). put_at (flagged [] es (base_asides b 0 0)) (4 + 72 * x) (entry_row 0 e) ≡ flagged [] (es ++ (e ∷ [])) (base_asides b 0 0)) n0
              (add-entry [] es (base_asides b 0 0) proper (omega arith) e (omega arith) fit));
          wide = rw (g, named-long register k (i + 1)) o.wide;
          named = rw (g, made, entries_next b i) (subst (λ (x : ℕ). Named (named register e.made (x + 1)) (with_entries t (es ++ (e ∷ [])))) n0 step);
          blank = λ x u. rw g (named-behind register k (i + 1) c r0 x u ∙ o.blank x u);
        }

    pub row_ranged : Ranged (entry_in (take (24 + 72 * i + 72 - (24 + 72 * i)) (drop (24 + 72 * i) b)) 0)
    row_ranged = rw (part_is b (24 + 72 * i) 72, entry_here b i) (w.rows i h)

    pub table-long : length table ≡ 86020
    unfolding tree_to work_bytes
    table-long =
        ap (λ (x : List ℕ). length x) o.bytes
        ∙ flagged-long [] (base_entries b 0 i) (base_asides b 0 0) (proper_to i (omega arith)) (omega (arith, entries_long b 0 i, w.few)) (omega (arith, asides_long b 0 0))

    pub row_end : 4 + 72 * i + 72 ≤ length table
    row_end = omega (arith, table-long, w.few)

    pub row_role : i + 1 < 65536
    row_role = omega (arith, w.few)

    pub name_chains : Chains 0 register
    name_chains = o.named.chains

    pub name_room : nodes_in 0 register < 1536
    unfolding tree_to
    name_room = omega (arith, o.named.count, entries_long b 0 i, asides_long b 0 0, w.few)

  -- an aside more
  module _ (table register : List ℕ) (j : ℕ) (o : Loading b table register n j) (h : j < m) where
    pub aside-loaded : (ys : List ℕ)
        → ys ≡ loaded_aside (take (73732 + 12 * j + 12 - (73732 + 12 * j)) (drop (73732 + 12 * j) table)) (take (36888 + 12 * j + 12 - (36888 + 12 * j)) (drop (36888 + 12 * j) b))
        → (k : ℕ) → k ≡ identity_at b (36888 + 12 * j) → (l : List ℕ) → l ≡ named register k (1025 + j)
        → Loading b (put_mid (73732 + 12 * j) (73732 + 12 * j + 12 - (73732 + 12 * j)) table ys) l n (j + 1)
    unfolding tree_to work_bytes with_asides
    aside-loaded ys y k q l g =
        let a = base_aside b j in
        let es = base_entries b 0 n in
        let s = base_asides b 0 j in
        let t = tree_to b n j in
        let few = w.few in
        let few2 = w.few_asides in
        let n0 = entries_long b 0 n in
        let m0 = asides_long b 0 j in
        let proper = proper_to n (omega arith) in
        let tl : length table ≡ 86020 = ap (λ (x : List ℕ). length x) o.bytes ∙ flagged-long [] es s proper (omega arith) (omega arith) in
        let cl : length (part table (73732 + 12 * j) 12) ≡ 12 = part_length table (73732 + 12 * j) 12 (omega arith) in
        let z : ys ≡ aside_row a =
        y ∙ rw (part_is table (73732 + 12 * j) 12, part_is b (36888 + 12 * j) 12, loaded-aside (part b (36888 + 12 * j) 12) (part table (73732 + 12 * j) 12) cl, aside_here b j) in
        let made : k ≡ a.who = q ∙ sym (who_is b j) in
        let c = o.named.chains in
        let r0 : nodes_in 0 register < 1536 = omega (arith, o.named.count) in
        let long : put_mid (73732 + 12 * j) (73732 + 12 * j + 12 - (73732 + 12 * j)) table ys ≡ put_at table (73732 + 12 * j) (aside_row a) =
        mid_put (73732 + 12 * j) 12 table ys (ap (λ (x : List ℕ). length x) z ∙ aside_row_length a) ∙ rw z in
        let step : Named (named register a.who (1025 + length s)) (with_asides t (s ++ (a ∷ []))) =
        (named-aside register t o.named (omega arith) (λ k₁. apart_to n j k₁ (omega arith) (omega arith)) (omega arith) a (fresh-aside j h)) in
        record {
          bytes =
              long
              ∙ rw (o.bytes, asides_next b j)
              (subst (λ (x : ℕ). put_at (flagged [] es s) (73732 + 12 * x) (aside_row a) ≡ flagged [] es (s ++ (a ∷ []))) m0
              (add-aside [] es s proper (omega arith) a));
          wide = rw (g, named-long register k (1025 + j)) o.wide;
          named = rw (g, made, asides_next b j) (subst (λ (x : ℕ). Named (named register a.who (1025 + x)) (with_asides t (s ++ (a ∷ [])))) m0 step);
          blank = λ x u. rw g (named-behind register k (1025 + j) c r0 x u ∙ o.blank x u);
        }

    pub note_noted : Noted (aside_in (take (36888 + 12 * j + 12 - (36888 + 12 * j)) (drop (36888 + 12 * j) b)) 0)
    note_noted = rw (part_is b (36888 + 12 * j) 12, aside_here b j) (w.notes j h)

    pub notes_long : length table ≡ 86020
    unfolding tree_to work_bytes
    notes_long =
        ap (λ (x : List ℕ). length x) o.bytes
        ∙ flagged-long [] (base_entries b 0 n) (base_asides b 0 j) (proper_to n (omega arith)) (omega (arith, entries_long b 0 n, w.few)) (omega (arith, asides_long b 0 j, w.few_asides))

    pub note_end : 73732 + 12 * j + 12 ≤ length table
    note_end = omega (arith, notes_long, w.few_asides)

    pub note_role : 1025 + j < 65536
    note_role = omega (arith, w.few_asides)

    pub note_chains : Chains 0 register
    note_chains = o.named.chains

    pub note_room : nodes_in 0 register < 1536
    unfolding tree_to
    note_room = omega (arith, o.named.count, entries_long b 0 n, asides_long b 0 j, w.few, w.few_asides)

-- ---- all of them
