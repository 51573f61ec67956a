-- The index made from the bytes of the table that shows a tree is the index of the tree.
-- Assumes nothing.
use Prim.Native.Nat.{ℕ, zero, suc, ◌+◌, ◌-◌, ◌*◌, ◌≤◌, ◌<◌}
use native.Mathlib.Nat.{add-zero}
use native.Mathlib.Omega.{arith}
use mathlib.Core.Path.{◌≡◌, refl, sym, ap, ◌∙◌}
use mathlib.Core.List.{List, [], ◌∷◌, ◌++◌, append_assoc}
use lib.ListN.{get_or, length, replicate, length-append}
use Rattle.byte_slice.proofs.Parts.{part_front, part-behind, part-part, part-whole}
use Rattle.byte_slice.proofs.Words.{word_two}
use Rattle.model.specs.Bytes.{word, two, part, padded}
use Rattle.model.specs.Replay.{Entry, Aside, Tree, present_ones}
use Rattle.model.specs.Table.{identity_bytes, entry_row, entry_rows, aside_rows, table_bytes, entry_in}
use Rattle.log_laws.proofs.Members.{All}
use Rattle.tree_table.specs.Rows.{entries_from, flag_of, Proper, AllProper}
use Rattle.tree_table.proofs.Rows.{rows_length, entries_back}
use Rattle.tree_table.proofs.Writes.{rows_part}
use Rattle.index_model.specs.Index.{index_places, ordered, index_row, index_rows, index_bytes, index_of}
use Rattle.index_laws.specs.Copied.{entry_row_at, ordered_rows, copied_row, copied_rows, index_from}
use Rattle.index_laws.proofs.Exact.{length-ordered}
use Rattle.index_laws.proofs.Fresh.{rows_of, rows_ordered, ordered-below}

-- ---- the fields of a row

row_folder : (d : ℕ) (e : Entry) → part (entry_row d e) 8 4 ≡ identity_bytes e.inside
unfolding part entry_row identity_bytes
row_folder d e = refl

row_made : (d : ℕ) (e : Entry) → part (entry_row d e) 4 4 ≡ identity_bytes e.made
unfolding part entry_row identity_bytes
row_made d e = refl

row_label : (d : ℕ) (e : Entry) → Proper e → part (entry_row d e) 24 32 ≡ e.label
unfolding entry_row identity_bytes
row_label d e p =
    let h : List ℕ = (e.kind ∷ d ∷ 0 ∷ 0 ∷ []) ++ (identity_bytes e.made ++ (identity_bytes e.inside ++ (identity_bytes e.contents ++ identity_bytes e.placing))) in
    let t : List ℕ = e.label ++ e.mark in
    let a = p.date_long in
    let c = p.label_long in
    let n : length (h ++ e.date) ≡ 24 = omega arith in
    let u : h ++ (e.date ++ t) ≡ (h ++ e.date) ++ t = sym (append_assoc h e.date t) in
    let v : part ((h ++ e.date) ++ t) 24 32 ≡ part t 0 32 = rw (add-zero (length (h ++ e.date)), n) at (part-behind (h ++ e.date) t 0 32) in
    ap (λ (x : List ℕ). part x 24 32) u ∙ v ∙ part_front e.label e.mark 0 32 (omega arith) ∙ rw (← c) (part-whole e.label)

-- ---- the rows of a table

pub entries_at : (b : List ℕ) (j n i : ℕ) (d : Entry) → i < n → get_or (entries_from b j n) i d ≡ entry_in b (4 + 72 * (j + i))
unfolding entries_from
entries_at b j zero i d h = absurd (omega arith)
entries_at b j (suc n) zero d h = rw (add-zero j)
entries_at b j (suc n) (suc i) d h = let e : j + suc i ≡ suc j + i = omega arith in rw e (entries_at b (suc j) n i d (omega arith))

module _ (t : Tree) (few : length (present_ones t.entries) ≤ index_places) (proper : AllProper (present_ones t.entries)) where
  ps : List Entry
  ps = present_ones t.entries

  shown : entries_from (table_bytes t) 0 (length ps) ≡ ps
  unfolding table_bytes padded ps
  shown =
      let s : List Aside = t.asides in
      let es : List Entry = present_ones t.entries in
      let R = entry_rows s es in
      let z : List ℕ = replicate (73728 - length R) 0 in
      let A : List ℕ = aside_rows s ++ replicate (12288 - length (aside_rows s)) 0 in
      rw (append_assoc R z A) (entries_back s es (two (length es) ++ two (length s)) (z ++ A) 0 refl proper)

  counted : word (table_bytes t) 0 ≡ length ps
  unfolding table_bytes ps
  counted = word_two (length (present_ones t.entries)) (two (length t.asides) ++ (padded 73728 (entry_rows t.asides (present_ones t.entries)) ++ padded 12288 (aside_rows t.asides)))

  module _ (d : Entry) where
    row-at : (i : ℕ) → i < length ps → part (table_bytes t) (4 + 72 * i) 72 ≡ entry_row (flag_of t.asides (get_or ps i d)) (get_or ps i d)
    unfolding table_bytes padded ps
    row-at i h =
        let s : List Aside = t.asides in
        let es : List Entry = present_ones t.entries in
        let R = entry_rows s es in
        let z : List ℕ = replicate (73728 - length R) 0 in
        let A : List ℕ = aside_rows s ++ replicate (12288 - length (aside_rows s)) 0 in
        let n = rows_length s es proper in
        let m = length-append R z in
        part-behind (two (length es) ++ two (length s)) ((R ++ z) ++ A) (72 * i) 72
        ∙ part_front (R ++ z) A (72 * i) 72 (omega arith)
        ∙ part_front R z (72 * i) 72 (omega arith)
        ∙ rows_part s es i d h proper

    entry_at : (i : ℕ) → i < length ps → entry_row_at (table_bytes t) i ≡ get_or ps i d
    entry_at i h =
        let z : 0 + i ≡ i = omega arith in
        sym (rw z at (entries_at (table_bytes t) 0 (length ps) i d h)) ∙ rw shown

    proper_at : (l : List Entry) (i : ℕ) → i < length l → AllProper l → Proper (get_or l i d)
    proper_at [] i h a = absurd (omega arith)
    proper_at (e ∷ l) zero h a = a.0
    proper_at (e ∷ l) (suc i) h a = proper_at l i (omega arith) a.1

    row_copied : (i : ℕ) → i < length ps → copied_row (table_bytes t) i ≡ index_row (entry_row_at (table_bytes t) i)
    unfolding copied_row index_row ps
    row_copied i h =
        let b = table_bytes t in
        let e : Entry = get_or (present_ones t.entries) i d in
        let f = flag_of t.asides e in
        let u : part b (4 + 72 * i + 8) 4 ≡ identity_bytes e.inside = sym (part-part b (4 + 72 * i) 72 8 4 (omega arith)) ∙ rw (row-at i h) (row_folder f e) in
        let v : part b (4 + 72 * i + 24) 32 ≡ e.label = sym (part-part b (4 + 72 * i) 72 24 32 (omega arith)) ∙ rw (row-at i h) (row_label f e (proper_at (present_ones t.entries) i h proper)) in
        let w : part b (4 + 72 * i + 4) 4 ≡ identity_bytes e.made = sym (part-part b (4 + 72 * i) 72 4 4 (omega arith)) ∙ rw (row-at i h) (row_made f e) in
        rw (entry_at i h, u, v, w)

    rows_copied : (o : List ℕ) → All (λ (j : ℕ). j < length ps) o → copied_rows (table_bytes t) o ≡ index_rows (rows_of (table_bytes t) o)
    unfolding copied_rows index_rows rows_of
    rows_copied [] a = refl
    rows_copied (i ∷ o) a = rw (row_copied i a.0, rows_copied o a.1)

    made : index_from (table_bytes t) (length ps) ≡ index_bytes (ordered ps)
    unfolding index_from index_bytes
    made =
        let b = table_bytes t in
        let n = length ps in
        let q : copied_rows b (ordered_rows b 0 n) ≡ index_rows (ordered ps) =
        rows_copied (ordered_rows b 0 n) (ordered-below b 0 n n (omega arith)) ∙ ap index_rows (rows_ordered b 0 n ∙ ap ordered shown) in
        rw (q, length-ordered ps)

    pub made_fresh : index_from (table_bytes t) (word (table_bytes t) 0) ≡ index_of t
    unfolding index_of ps
    made_fresh = rw counted made

  pub count_few : word (table_bytes t) 0 ≤ index_places
  unfolding ps
  count_few = omega (arith, counted)
