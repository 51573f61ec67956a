-- Rows of the index read, looked up and listed: each way out over plain values.
-- Assumes nothing.
use Prim.Native.Nat.{ℕ, ◌+◌, ◌-◌, ◌*◌, ◌≤◌, ◌<◌}
use native.Mathlib.Omega.{arith}
use mathlib.Core.Path.{◌≡◌, sym, ap, ◌∙◌}
use mathlib.Core.Bool.{Bool, true, false, not, ◌&&◌}
use mathlib.Core.List.{List}
use lib.Dec.{ltb, eqb}
use lib.ListN.{length, take, drop, replicate}
use borrow.Author.Tests.{eq-eqb, ne_eqb, lt-ltb, le-ltb, ltb-true, not-true, not-false}
use Rattle.byte_slice.proofs.Numbers.{and_true, and_wrong, test_false}
use Rattle.byte_slice.proofs.Parts.{part_is, part_length}
use Rattle.record_label.proofs.Same.{same_key, key_length}
use Rattle.model.specs.Bytes.{part}
use Rattle.model.specs.Record.{identity_at}
use Rattle.model.specs.Replay.{same_label}
use Rattle.index_model.specs.Index.{index_size, index_places, folder_key, key_before, row_before, rows_in, folder_at, label_at, entry_at, row_is, halve, seek, find_in, first_in, end_in, found, find_of, range, range_of}

-- ---- one row

module _ (b : List ℕ) (f : ℕ) (t : List ℕ) (i : ℕ) where
  pub row_key : (r : Bool) (g k : ℕ) → k ≡ identity_at b (4 + 40 * i) → g ≡ folder_key k
      → r ≡ key_before g (take (4 + 40 * i + 4 + 32 - (4 + 40 * i + 4)) (drop (4 + 40 * i + 4) b)) f t
      → r ≡ row_before b f t i
  unfolding row_before folder_at label_at
  row_key r g k p q e = e ∙ rw (q, p, part_is b (4 + 40 * i + 4) 32)

  module _ (n : ℕ) (e : n ≡ rows_in b) where
    pub row_out : n ≤ i → false ≡ row_is b f t i
    unfolding row_is
    row_out h = rw (← e, le-ltb i n h)

    module _ (h : i < n) (k : ℕ) (p : k ≡ identity_at b (4 + 40 * i)) where
      pub row_other : (k ≡ f → ⊥) → false ≡ row_is b f t i
      unfolding row_is folder_at
      row_other g = rw (← e, lt-ltb i n h, ← p, ne_eqb k f g)

      -- a label of another length is in no row
      pub row_short : length b ≡ index_size → n ≤ index_places → (length t ≡ 32 → ⊥) → false ≡ row_is b f t i
      unfolding row_is label_at
      row_short m few g =
          let l = part b (4 + 40 * i + 4) 32 in
          let s : same_label l t ≡ false =
          test_false (same_label l t)
          (λ q. g (sym (key_length t) ∙ ap length (sym (same_key l t q)) ∙ key_length l ∙ part_length b (4 + 40 * i + 4) 32 (omega arith))) in
          rw (s, and_wrong (eqb (folder_at b i) f), and_wrong (ltb i (rows_in b)))

      pub row_same : k ≡ f → (r : Bool) → r ≡ same_label (take (4 + 40 * i + 4 + 32 - (4 + 40 * i + 4)) (drop (4 + 40 * i + 4) b)) t → r ≡ row_is b f t i
      unfolding row_is folder_at label_at
      row_same g r q = q ∙ rw (← e, lt-ltb i n h, ← p, eq-eqb k f g, part_is b (4 + 40 * i + 4) 32)

-- ---- the answers

module _ (b : List ℕ) (f : ℕ) (t : List ℕ) where
  pub find_bad_index : (length b ≡ index_size → ⊥) → found 1 0 ≡ find_of b f t
  unfolding find_of
  find_bad_index h = rw (ne_eqb (length b) index_size h)

  module _ (h : length b ≡ index_size) where
    pub find_bad_label : (length t ≡ 32 → ⊥) → found 1 0 ≡ find_of b f t
    unfolding find_of
    find_bad_label g = rw (eq-eqb (length b) index_size h, ne_eqb (length t) 32 g)

    module _ (g : length t ≡ 32) {n k i : ℕ} (p : n ≡ rows_in b) (q : k ≡ folder_key f) (s : i ≡ halve (row_before b k t) 11 0 n) {r : Bool} (e : r ≡ row_is b f t i) where
      sought : i ≡ seek b (folder_key f) t
      unfolding seek
      sought = s ∙ rw (p, q)

      pub find_none : not r ≡ true → found 0 0 ≡ find_of b f t
      unfolding find_of find_in
      find_none z =
          let w : row_is b f t (seek b (folder_key f) t) ≡ false = rw (← sought) (sym e ∙ not-true r z) in
          rw (eq-eqb (length b) index_size h, eq-eqb (length t) 32 g, w)

      pub find_there : not r ≡ false → (x : ℕ) → x ≡ entry_at b i → found 0 x ≡ find_of b f t
      unfolding find_of find_in
      find_there z x y =
          let w : row_is b f t (seek b (folder_key f) t) ≡ true = rw (← sought) (sym e ∙ not-false r z) in
          rw (eq-eqb (length b) index_size h, eq-eqb (length t) 32 g, w, ← sought, y)

      pub row_within : not r ≡ false → n ≤ index_places → i < index_places
      unfolding row_is
      row_within z few =
          let (u, v) = and_true (ltb i (rows_in b)) (eqb (folder_at b i) f && same_label (label_at b i) t) (sym e ∙ not-false r z) in
          omega (arith, ltb-true i (rows_in b) u)

pub list_bad_index : (b : List ℕ) (f : ℕ) → (length b ≡ index_size → ⊥) → range 1 0 0 ≡ range_of b f
unfolding range_of
list_bad_index b f h = rw (ne_eqb (length b) index_size h)

module _ (b : List ℕ) (f : ℕ) (h : length b ≡ index_size) {n k a z : ℕ} (p : n ≡ rows_in b) (q : k ≡ folder_key f)
    (x : a ≡ halve (row_before b k (replicate 32 0)) 11 0 n) (y : z ≡ halve (row_before b (k + 1) (replicate 32 0)) 11 0 n) where
  first_is : a ≡ first_in b f
  unfolding first_in seek
  first_is = x ∙ rw (p, q)

  end_is : z ≡ end_in b f
  unfolding end_in seek
  end_is = y ∙ rw (p, q)

  pub list_there : (k : ℕ) → k ≡ z - a → range 0 a k ≡ range_of b f
  unfolding range_of
  list_there k e = rw (eq-eqb (length b) index_size h, e, ← first_is, ← end_is)
