-- Blocks that pass the checks of a file are those of its own rows and records, written again. SAB1 has no rows.
-- Assumes nothing.
use Prim.Native.Nat.{ℕ, zero, suc, ◌+◌, ◌-◌, ◌*◌, ◌/◌, ◌%◌, ◌≤◌, ◌<◌, min}
use native.Mathlib.Omega.{arith}
use mathlib.Core.Path.{◌≡◌, sym, ap, ◌∙◌}
use mathlib.Core.Logic.{◌⊎◌, inl, inr, ⊎_elim}
use mathlib.Core.Bool.{Bool, true, false, cond, ◌||◌}
use mathlib.Core.List.{List, ◌++◌}
use lib.Dec.{ltb, leb, eqb}
use lib.ListN.{length, take, drop, length-drop, take-append-drop}
use lib.Seq.{take_all}
use borrow.Author.Tests.{eqb-true, leb-true, lt-ltb, le-ltb}
use Rattle.model.specs.Bytes.{part}
use Rattle.model.specs.Vector.{blocks_for}
use Rattle.model.specs.Block.{Header, archive_in, sender_in, count_in, vector_in}
use Rattle.model.specs.File.{header_of, blocks_in, block_at, count_fits, file_record, file_records_from, records_counted, file_records}
use Rattle.run_model.specs.Runs.{behind, run_to}
use Rattle.run_model.specs.Blocks.{count_fits_as, blocks_fault_as}
use Rattle.byte_slice.proofs.Numbers.{lt_or_ge, and_true, or_true}
use Rattle.byte_slice.proofs.Parts.{part-drop, part_length}
use Rattle.block_laws.proofs.Fields.{Sized}
use Rattle.block_laws.proofs.Faults.{three_passed, stored_header}
use Rattle.run_laws.specs.Fits.{Fits, Agreeing, Holds}
use Rattle.run_laws.proofs.Again.{Bytes, bytes_drop}
use Rattle.run_laws.proofs.Runs.{run_rewritten}
use Rattle.run_laws.proofs.Passed.{blocks_passed, block_passed}
use Rattle.run_laws.proofs.Written.{none_counted}

-- ---- counts

-- a block of the rows, and whether the file ends before them
row_count_lem : (r n k c : ℕ) → k < blocks_for r → count_fits_as r n k c ≡ true → (c ≡ min 6 (r - 6 * k)) × ((ltb (suc k) n || eqb (suc k) (blocks_for r)) ≡ true)
unfolding count_fits_as
row_count_lem r n k c h e =
    let (a, b) = and_true (eqb c (min 6 (r - 6 * k))) (ltb (suc k) n || eqb (suc k) (blocks_for r)) (rw (lt-ltb k (blocks_for r) h) at e) in
    (eqb-true c (min 6 (r - 6 * k)) a, b)

record_full : (r n k c : ℕ) → blocks_for r ≤ k → suc k < n → count_fits_as r n k c ≡ true → c ≡ 6
unfolding count_fits_as count_fits
record_full r n k c h b e = eqb-true c 6 (rw (le-ltb k (blocks_for r) h, lt-ltb (suc k) n b) at e)

record_last : (r n k c : ℕ) → blocks_for r ≤ k → n ≤ suc k → count_fits_as r n k c ≡ true → (n ≡ 1) ⊎ (1 ≤ c)
unfolding count_fits_as count_fits
record_last r n k c h b e =
    let d : (eqb n 1 || leb 1 c) ≡ true = rw (le-ltb k (blocks_for r) h, le-ltb (suc k) n b) at e in
    ⊎_elim (λ (x : eqb n 1 ≡ true). inl (eqb-true n 1 x)) (λ (x : leb 1 c ≡ true). inr (leb-true 1 c x)) (or_true (eqb n 1) (leb 1 c) d)

no_rows : (r : ℕ) → blocks_for r ≡ 0 → r ≡ 0
unfolding blocks_for
no_rows r h = omega arith

row_in_block : (r j : ℕ) → j < 0 + r → j / 6 < blocks_for r
unfolding blocks_for
row_in_block r j h = omega arith

-- ---- places of 80 bytes

long-row : (f : List ℕ) (j n : ℕ) → length f ≡ 512 * n → j / 6 < n → length (file_record f j) ≡ 80
unfolding file_record
long-row f j n e h = part_length f (512 * (j / 6) + (28 + 80 * (j % 6))) 80 (omega arith)

sized_from : (f : List ℕ) (n i : ℕ) → ((j : ℕ) → j < i + n → length (file_record f j) ≡ 80) → Sized (file_records_from f i n)
unfolding file_records_from
sized_from f zero i h = tt
sized_from f (suc n) i h = (h i (omega arith), sized_from f n (suc i) (λ j k. h j (omega arith)))

-- ---- the file

module _ (t : List ℕ) (r : ℕ) (f : List ℕ) (whole : length f ≡ 512 * blocks_in f) (some : 1 ≤ blocks_in f) (e : (blocks_fault_as t r f 0 (blocks_in f)).number ≡ 0) where
  abbrev n : ℕ
  n = blocks_in f

  abbrev p : ℕ
  p = blocks_for r

  abbrev count : ℕ → ℕ
  count k = count_in (block_at f k)

  pub agreeing : (k : ℕ) → k < n → Agreeing t r f k
  agreeing k h = block_passed t r f k (blocks_passed t r f n 0 e k (omega arith) (omega arith))

  few : (k : ℕ) → k < n → count k ≤ 6
  few k h = (stored_header (block_at f k) (three_passed t (block_at f k) (agreeing k h).good).2).1

  pub sender_right : sender_in (block_at f 0) ≤ 7
  sender_right = (stored_header (block_at f 0) (three_passed t (block_at f 0) (agreeing 0 some).good).2).0

  -- the file does not end before its rows
  pub rows_inside : p ≤ n
  rows_inside =
      ⊎_elim
      (λ (h : n - 1 < p).
      let b : n - 1 < n = omega (arith, some) in
      let (x, y) = row_count_lem r n (n - 1) (count (n - 1)) h (agreeing (n - 1) b).filled in
      let s : suc (n - 1) ≡ n = omega arith in
      let d : (ltb n n || eqb n p) ≡ true = rw s at y in
      ⊎_elim
      (λ (c : ltb n n ≡ true). let z : false ≡ true = sym (le-ltb n n (omega arith)) ∙ c in absurd (never z))
      (λ (c : eqb n p ≡ true). omega (arith, eqb-true n p c))
      (or_true (ltb n n) (eqb n p) d))
      (λ (h : p ≤ n - 1). omega arith)
      (lt_or_ge (n - 1) p)
    where
      never : false ≡ true → ⊥
      never z = let y : ◌≡◌ {A = ℕ} 0 1 = ap (λ (x : Bool). cond {A = ℕ} x 1 0) z in omega arith

  -- the blocks behind those of the rows
  abbrev rest : List ℕ
  rest = drop (512 * p) f

  rest_bytes : length rest ≡ 512 * (n - p)
  rest_bytes = omega (arith, length-drop (512 * p) f, whole, rows_inside)

  rest_blocks : blocks_in rest ≡ n - p
  unfolding blocks_in
  rest_blocks = omega (arith, rest_bytes)

  pub rest_block : (j : ℕ) → block_at rest j ≡ block_at f (p + j)
  unfolding block_at
  rest_block j =
      let s : 512 * p + 512 * j ≡ 512 * (p + j) = omega arith in
      part-drop f (512 * p) (512 * j) 512 ∙ ap (λ (i : ℕ). part f i 512) s

  counted : p < n → records_counted rest ≡ 6 * (n - p - 1) + count (n - 1)
  unfolding records_counted
  counted h =
      let s : p + (n - p - 1) ≡ n - 1 = omega arith in
      rw (rest_blocks, rest_block (n - p - 1), s)

  none : n ≡ p → records_counted rest ≡ 0
  unfolding records_counted
  none h = rw rest_blocks (omega (arith, none_counted rest (n - p - 1) (omega (arith, rest_bytes))))

  -- the blocks behind hold as many records as they count
  pub held : Holds r (records_counted rest) (n - p)
  held =
      ⊎_elim
      (λ (h : p < n).
      let c : records_counted rest ≡ 6 * (n - p - 1) + count (n - 1) = counted h in
      let b : count (n - 1) ≤ 6 = few (n - 1) (omega arith) in
      record {
        some = omega (arith, some);
        all = omega arith;
        tight =
            ⊎_elim
            (λ (x : n ≡ 1). inr (no_rows r (omega arith), omega arith))
            (λ (x : 1 ≤ count (n - 1)). inl (omega arith))
            (record_last r n (n - 1) (count (n - 1)) (omega arith) (omega arith) (agreeing (n - 1) (omega arith)).filled);
      })
      (λ (h : n ≤ p).
      let x : n ≡ p = omega (arith, rows_inside) in
      let c : records_counted rest ≡ 0 = none x in
      record { some = omega (arith, some); all = omega arith; tight = inl (omega arith) })
      (lt_or_ge p n)

  -- the header that the blocks are written with
  abbrev H : Header
  H = header_of (archive_in (block_at f 0)) (sender_in (block_at f 0)) 0 (vector_in (block_at f 0))

  pub row_fits_lem : (k : ℕ) → k < p → Fits t H r f k
  unfolding header_of
  row_fits_lem k h =
      let A : Agreeing t r f k = agreeing k (omega (arith, rows_inside)) in
      record {
        good = A.good;
        placed = omega (arith, A.placed);
        sent = A.sent;
        archived = A.archived;
        vectored = A.vectored;
        filled = (row_count_lem r n k (count k) h A.filled).0;
      }

  pub record_fits : (j : ℕ) → j < n - p → Fits t (behind H p) (records_counted rest) rest j
  unfolding header_of behind
  record_fits j h =
      let A : Agreeing t r f (p + j) = agreeing (p + j) (omega arith) in
      let q : block_at rest j ≡ block_at f (p + j) = rest_block j in
      let m : records_counted rest ≡ 6 * (n - p - 1) + count (n - 1) = counted (omega arith) in
      let c : count (p + j) ≡ min 6 (records_counted rest - 6 * j) =
      ⊎_elim
      (λ (b : suc (p + j) < n). let y : count (p + j) ≡ 6 = record_full r n (p + j) (count (p + j)) (omega arith) b A.filled in omega arith)
      (λ (b : n ≤ suc (p + j)).
      let y : p + j ≡ n - 1 = omega arith in
      let z : count (p + j) ≡ count (n - 1) = ap count y in
      let x : count (n - 1) ≤ 6 = few (n - 1) (omega arith) in
      omega arith)
      (lt_or_ge (suc (p + j)) n) in
      record {
        good = rw q A.good;
        placed = rw q (omega (arith, A.placed));
        sent = rw q A.sent;
        archived = rw q A.archived;
        vectored = rw q A.vectored;
        filled = rw q c;
      }

  pub rows_sized : Sized (file_records_from f 0 r)
  rows_sized = sized_from f r 0 (λ j h. long-row f j n whole (omega (arith, row_in_block r j h, rows_inside)))

  module _ (g : Bytes f) where
    rows_right : run_to t H (file_records_from f 0 r) p ≡ take (512 * p) f
    rows_right = run_rewritten t H r f g p (omega (arith, whole, rows_inside)) row_fits_lem

    records_right : run_to t (behind H p) (file_records rest) (n - p) ≡ rest
    unfolding file_records
    records_right =
        run_rewritten t (behind H p) (records_counted rest) rest (bytes_drop f (512 * p) g) (n - p) (omega (arith, rest_bytes)) record_fits
        ∙ take_all (512 * (n - p)) rest (omega (arith, rest_bytes))

    -- its rows and records, written again, are the file
    pub file_again : run_to t H (file_records_from f 0 r) p ++ run_to t (behind H p) (file_records rest) (n - p) ≡ f
    file_again = (λ i. rows_right i ++ records_right i) ∙ take-append-drop (512 * p) f
