-- What the code of the whole check is asked, over plain values.
-- Assumes nothing.
use Prim.Native.Nat.{ℕ, ◌+◌, ◌-◌, ◌*◌, ◌≤◌, ◌<◌}
use native.Mathlib.Omega.{arith}
use mathlib.Core.Path.{◌≡◌, ◌∙◌}
use mathlib.Core.Bool.{Bool, true, false, not, ◌&&◌}
use mathlib.Core.List.{List}
use lib.Dec.{eqb, leb}
use lib.ListN.{get_or, take, drop}
use borrow.Author.Tests.{lt-leb, not-true, not-false}
use Rattle.model.specs.Bytes.{word, blank, part}
use Rattle.model.specs.Vector.{vector_at}
use Rattle.model.specs.Log.{all_to}
use Rattle.byte_slice.proofs.Numbers.{and_wrong}
use Rattle.base_model.specs.Base.{base_vector, base_head_fits, entry_fits, aside_fits, entry_row_fits, aside_row_fits, rest_blank, rows_fit, ids_fit, name_new, sound_base}
use Rattle.base_links.proofs.Links.{all_next, all_ends, all_none}

module _ (b : List ℕ) where
  pub head_is : {x y z : ℕ} → x ≡ word b 2 → y ≡ word b 4 → z ≡ word b 6 → (eqb (get_or b 1 0) 0 && (leb x 512 && (leb y 512 && eqb z 0))) ≡ base_head_fits b
  unfolding base_head_fits
  head_is e f g = rw (e, f, g)

  module _ (v : List ℕ) (e : v ≡ base_vector b) where
    pub entries_next : (i : ℕ) {t u : Bool} → t ≡ all_to i (entry_row_fits b) → u ≡ entry_fits v b (24 + 72 * i) → (t && u) ≡ all_to (i + 1) (entry_row_fits b)
    unfolding entry_row_fits
    entries_next i a f = all_next (entry_row_fits b) i a (f ∙ rw e)

    pub asides_next : (i : ℕ) {t u : Bool} → t ≡ all_to i (aside_row_fits b) → u ≡ aside_fits v b (36888 + 12 * i) → (t && u) ≡ all_to (i + 1) (aside_row_fits b)
    unfolding aside_row_fits
    asides_next i a f = all_next (aside_row_fits b) i a (f ∙ rw e)

  pub entries_start : true ≡ all_to 0 (entry_row_fits b)
  entries_start = all_none (entry_row_fits b)

  pub asides_start : true ≡ all_to 0 (aside_row_fits b)
  asides_start = all_none (aside_row_fits b)

  pub entries_end : (i n : ℕ) {t : Bool} → i ≤ n → n ≤ i → t ≡ all_to i (entry_row_fits b) → t ≡ all_to n (entry_row_fits b)
  entries_end i n h g e = all_ends (entry_row_fits b) i n h g e

  pub asides_end : (i n : ℕ) {t : Bool} → i ≤ n → n ≤ i → t ≡ all_to i (aside_row_fits b) → t ≡ all_to n (aside_row_fits b)
  asides_end i n h g e = all_ends (aside_row_fits b) i n h g e

  pub rest_is : (n m : ℕ) {t u : Bool} → t ≡ blank (take (36888 - (24 + 72 * n)) (drop (24 + 72 * n) b)) → u ≡ blank (take (43032 - (36888 + 12 * m)) (drop (36888 + 12 * m) b))
      → (t && u) ≡ rest_blank b n m
  unfolding rest_blank part
  rest_is n m e f =
      let p : 36888 - (24 + 72 * n) ≡ 36864 - 72 * n = omega arith in
      let q : 43032 - (36888 + 12 * m) ≡ 6144 - 12 * m = omega arith in
      rw (e, f, p, q)

  pub vector_is : {v : List ℕ} → v ≡ vector_at b 8 → v ≡ base_vector b
  unfolding base_vector
  vector_is e = e

  pub rows_are : (n m : ℕ) {t u w : Bool} → t ≡ all_to n (entry_row_fits b) → u ≡ all_to m (aside_row_fits b) → w ≡ rest_blank b n m → (t && (u && w)) ≡ rows_fit b n m
  unfolding rows_fit
  rows_are n m e f g = rw (e, f, g)

  -- ---- the ways out

  module _ {h : Bool} (e : h ≡ base_head_fits b) where
    pub no_head_lem : not h ≡ true → false ≡ sound_base b
    unfolding sound_base
    no_head_lem f = rw (← e, not-true h f)

    pub many_entries : {n : ℕ} → n ≡ word b 2 → 512 < n → false ≡ sound_base b
    unfolding sound_base base_head_fits
    many_entries {n} p l = rw (← p, lt-leb n 512 l, and_wrong (eqb (get_or b 1 0) 0))

    pub many_asides : {n m : ℕ} → n ≡ word b 2 → m ≡ word b 4 → 512 < m → false ≡ sound_base b
    unfolding sound_base base_head_fits
    many_asides {n} {m} p q l = rw (← q, lt-leb m 512 l, and_wrong (leb (word b 2) 512), and_wrong (eqb (get_or b 1 0) 0))

    module _ {n m : ℕ} {r : Bool} (f : not h ≡ false) (p : n ≡ word b 2) (q : m ≡ word b 4) (g : r ≡ rows_fit b n m) where
      pub no_rows : not r ≡ true → false ≡ sound_base b
      unfolding sound_base
      no_rows k = rw (← e, not-false h f, ← p, ← q, ← g, not-true r k)

      pub whole : {t u : Bool} → not r ≡ false → t ≡ ids_fit b n m → u ≡ all_to n (name_new b) → (t && u) ≡ sound_base b
      unfolding sound_base
      whole k i j = rw (← e, not-false h f, ← p, ← q, ← g, not-false r k, i, j)
