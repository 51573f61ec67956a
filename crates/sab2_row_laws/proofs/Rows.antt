-- Rows that keep their layout come back from the base that they leave.
-- Assumes nothing.
use Prim.Native.Nat.{ℕ, zero, suc, ◌+◌, ◌-◌, ◌≤◌, ◌<◌}
use native.Mathlib.Omega.{arith}
use mathlib.Core.Path.{◌≡◌, refl, sym, ap, ◌∙◌}
use mathlib.Core.Logic.{⊎_elim}
use mathlib.Core.Bool.{true, ◌&&◌}
use mathlib.Core.List.{List, [], ◌∷◌, ◌++◌}
use lib.Dec.{leb}
use lib.ListN.{get_or, length, take, drop, replicate, length-take, length-drop, length-replicate, take-append-drop, drop_of_length-le}
use lib.Seq.{drop-cons}
use borrow.Author.Tests.{leb-true}
use Rattle.model.specs.Bytes.{word, blank, part, padded}
use Rattle.model.specs.Record.{Rec}
use Rattle.model.specs.Log.{all_to}
use Rattle.base_laws.proofs.Plain.{all_at}
use Rattle.byte_slice.proofs.Numbers.{lt_or_ge, and_true}
use Rattle.byte_slice.proofs.Compare.{blank-eq}
use Rattle.byte_slice.proofs.Words.{word-part, word-take}
use Rattle.byte_slice.proofs.PutAt.{length-put, part-put, part_put_before}
use Rattle.block_laws.proofs.Fields.{Sized}
use Rattle.sab2_model.specs.Rows.{row_count, rows_said, row_start, row_long, base_row, base_rows_from, base_rows, base_to, base_from, tail_blank, rows_hold_for, rows_hold}
use Rattle.sab2_row_laws.proofs.Starts.{row_short, row_inside, rows_apart}

-- ---- lists of rows

pub sized_at : (l : List Rec) (i : ℕ) → Sized l → i < length l → length (get_or l i []) ≡ 80
sized_at [] i z h = absurd (omega arith)
sized_at (r ∷ l) zero z h = z.0
sized_at (r ∷ l) (suc i) z h = sized_at l i z.1 (omega arith)

rows_are : (b : List ℕ) (l : List Rec) → ((i : ℕ) → i < length l → base_row b i ≡ get_or l i []) → (m i : ℕ) → i + m ≡ length l → base_rows_from b i m ≡ drop i l
unfolding base_rows_from
rows_are b l h zero i e = sym (drop_of_length-le l {i = i} (omega arith))
rows_are b l h (suc m) i e =
    rw (drop-cons l i [] (omega arith), h i (omega arith)) (ap (λ (x : List Rec). get_or l i [] ∷ x) (rows_are b l h m (suc i) (omega arith)))

pub get_d_rows_from : (b : List ℕ) (i n j : ℕ) → j < n → get_or (base_rows_from b i n) j [] ≡ base_row b (i + j)
unfolding base_rows_from
get_d_rows_from b i zero j h = absurd (omega arith)
get_d_rows_from b i (suc n) zero h = let e : i + 0 ≡ i = omega arith in rw e
get_d_rows_from b i (suc n) (suc j) h =
    let e : suc i + j ≡ i + suc j = omega arith in
    get_d_rows_from b (suc i) n j (omega arith) ∙ ap (base_row b) e

pub length_rows_from : (b : List ℕ) (i n : ℕ) → length (base_rows_from b i n) ≡ n
unfolding base_rows_from
length_rows_from b i zero = refl
length_rows_from b i (suc n) = ap suc (length_rows_from b (suc i) n)

-- a row whose tail is blank is its front, padded
pub padded_front : (r : List ℕ) (m n : ℕ) → length r ≡ n → m ≤ n → blank (drop m r) ≡ true → padded n (take m r) ≡ r
unfolding padded
padded_front r m n e h t =
    let x : length (take m r) ≡ m = omega (arith, length-take m r) in
    let y : length (drop m r) ≡ n - m = omega (arith, length-drop m r) in
    rw x (ap (λ (o : List ℕ). take m r ++ o) (sym (blank-eq (drop m r) t ∙ ap (λ (k : ℕ). replicate k 0) y)) ∙ take-append-drop m r)

-- ---- rows, by way of the base

module _ (rows : List Rec) (e a : ℕ) (e512 : e ≤ 512) (a512 : a ≤ 512) (z : Sized rows) (c : length rows ≡ row_count e a) where
  abbrev piece : ℕ → List ℕ
  piece i = take (row_long e a i) (get_or rows i [])

  piece_length : (i : ℕ) → i < length rows → length (piece i) ≡ row_long e a i
  piece_length i h = omega (arith, length-take (row_long e a i) (get_or rows i []), sized_at rows i z h, row_short e a i)

  inside : (i : ℕ) → i < length rows → row_start e i + row_long e a i ≤ 43032
  inside i h = row_inside e a i e512 a512 (omega arith)

  pub length_base : (n : ℕ) → n ≤ length rows → length (base_to rows e a n) ≡ 43032
  unfolding base_to
  length_base zero h = length-replicate {A = ℕ} 43032 0
  length_base (suc n) h =
      let m : length (base_to rows e a n) ≡ 43032 = length_base n (omega arith) in
      length-put (base_to rows e a n) (row_start e n) (piece n) (omega (arith, piece_length n (omega arith), inside n (omega arith))) ∙ m

  -- every row's bytes stand in the base
  base_part : (n i : ℕ) → i < n → n ≤ length rows → part (base_to rows e a n) (row_start e i) (row_long e a i) ≡ piece i
  unfolding base_to
  base_part zero i h k = absurd (omega arith)
  base_part (suc n) i h k =
      let m : length (base_to rows e a n) ≡ 43032 = length_base n (omega arith) in
      let w : row_start e n ≤ length (base_to rows e a n) = omega (arith, inside n (omega arith)) in
      ⊎_elim
      (λ (q : i < n). part_put_before (base_to rows e a n) (row_start e n) (piece n) (row_start e i) (row_long e a i) (rows_apart e a i n e512 q) w ∙ base_part n i q (omega arith))
      (λ (q : n ≤ i).
      let y : i ≡ n = omega arith in
      rw y (rw (piece_length n (omega arith)) at (part-put (base_to rows e a n) (row_start e n) (piece n) w)))
      (lt_or_ge i n)

module _ (rows : List Rec) (z : Sized rows) (c : length rows ≡ rows_said (get_or rows 0 [])) (k : rows_hold rows ≡ true) where
  abbrev e : ℕ
  e = word (get_or rows 0 []) 2

  abbrev a : ℕ
  a = word (get_or rows 0 []) 4

  holds : (e ≤ 512) × (a ≤ 512) × ((i : ℕ) → i < length rows → blank (drop (row_long e a i) (get_or rows i [])) ≡ true)
  unfolding rows_hold rows_hold_for tail_blank
  holds =
      let (x, y) = and_true (leb e 512) (leb a 512 && all_to (length rows) (tail_blank rows e a)) k in
      let (u, v) = and_true (leb a 512) (all_to (length rows) (tail_blank rows e a)) y in
      (leb-true e 512 x, leb-true a 512 u, all_at (length rows) (tail_blank rows e a) v)

  many : length rows ≡ row_count e a
  unfolding rows_said
  many = c

  some : 0 < length rows
  unfolding row_count
  some = omega (arith, many)

  stands : (i : ℕ) → i < length rows → part (base_from rows) (row_start e i) (row_long e a i) ≡ take (row_long e a i) (get_or rows i [])
  unfolding base_from
  stands i h = base_part rows e a holds.0 holds.1 z many (length rows) i h (omega arith)

  -- the base that rows leave has its length
  pub length_from : length (base_from rows) ≡ 43032
  unfolding base_from
  length_from = length_base rows e a holds.0 holds.1 z many (length rows) (omega arith)

  head_start : (row_start e 0 ≡ 0) × (row_long e a 0 ≡ 24)
  unfolding row_start row_long
  head_start = (refl, refl)

  -- the head row is in front
  head_word : (i : ℕ) → i + 1 < 24 → word (base_from rows) i ≡ word (get_or rows 0 []) i
  head_word i h =
      let (x, y) = head_start in
      let s : part (base_from rows) 0 24 ≡ take 24 (get_or rows 0 []) = rw (x, y) at (stands 0 some) in
      let t : 0 + i ≡ i = omega arith in
      sym (word-part (base_from rows) 0 24 i h ∙ ap (word (base_from rows)) t) ∙ ap (λ (b : List ℕ). word b i) s ∙ word-take 24 (get_or rows 0 []) i h

  row_back : (i : ℕ) → i < length rows → base_row (base_from rows) i ≡ get_or rows i []
  unfolding base_row
  row_back i h =
      rw (head_word 2 (omega arith), head_word 4 (omega arith), stands i h)
      (padded_front (get_or rows i []) (row_long e a i) 80 (sized_at rows i z h) (omega (arith, row_short e a i)) (holds.2 i h))

  -- the rows of the base that rows leave are those rows
  pub rows_of_base : base_rows (base_from rows) ≡ rows
  unfolding base_rows
  rows_of_base = rw (head_word 2 (omega arith), head_word 4 (omega arith), ← many) (rows_are (base_from rows) rows row_back (length rows) 0 (omega arith))
