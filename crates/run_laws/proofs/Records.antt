-- The records of a file, block by block.
-- Assumes nothing.
use Prim.Native.Nat.{ℕ, zero, suc, ◌+◌, ◌-◌, ◌*◌, ◌/◌, ◌%◌, ◌≤◌, ◌<◌}
use native.Mathlib.Omega.{arith}
use mathlib.Core.Path.{◌≡◌, refl, sym, ap, ◌∙◌}
use mathlib.Core.List.{List, [], ◌∷◌}
use lib.ListN.{get_or, length, take, drop, drop_of_length-le}
use lib.Seq.{drop-cons}
use Rattle.model.specs.Record.{Rec}
use Rattle.model.specs.Block.{record_at, records_from}
use Rattle.model.specs.File.{block_at, file_record, file_records_from}
use Rattle.byte_slice.proofs.Parts.{part-part}

-- record i of a file is record i % 6 of its block i / 6
pub record_in_block : (f : List ℕ) (i : ℕ) → file_record f i ≡ record_at (block_at f (i / 6)) (i % 6)
unfolding file_record record_at block_at
record_in_block f i = sym (part-part f (512 * (i / 6)) 512 (28 + 80 * (i % 6)) 80 (omega arith))

-- record j of block k
pub record_of_block : (f : List ℕ) (k j : ℕ) → j < 6 → file_record f (6 * k + j) ≡ record_at (block_at f k) j
record_of_block f k j h =
    let a : (6 * k + j) / 6 ≡ k = omega arith in
    let b : (6 * k + j) % 6 ≡ j = omega arith in
    rw (a, b) at (record_in_block f (6 * k + j))

-- the first c records of block k
pub records_of_block : (f : List ℕ) (k j c : ℕ) → j + c ≤ 6 → file_records_from f (6 * k + j) c ≡ records_from (block_at f k) j c
unfolding file_records_from records_from
records_of_block f k j zero h = refl
records_of_block f k j (suc c) h =
    let e : suc (6 * k + j) ≡ 6 * k + suc j = omega arith in
    λ i. record_of_block f k j (omega arith) i ∷ (ap (λ (x : ℕ). file_records_from f x c) e ∙ records_of_block f k (suc j) c (omega arith)) i

pub length-records_from : (b : List ℕ) (i n : ℕ) → length (records_from b i n) ≡ n
unfolding records_from
length-records_from b i zero = refl
length-records_from b i (suc n) = ap suc (length-records_from b (suc i) n)

pub length-file_records : (f : List ℕ) (i n : ℕ) → length (file_records_from f i n) ≡ n
unfolding file_records_from
length-file_records f i zero = refl
length-file_records f i (suc n) = ap suc (length-file_records f (suc i) n)

pub get_d_records_from : (b : List ℕ) (i n j : ℕ) → j < n → get_or (records_from b i n) j [] ≡ record_at b (i + j)
unfolding records_from
get_d_records_from b i zero j h = absurd (omega arith)
get_d_records_from b i (suc n) zero h = let e : i + 0 ≡ i = omega arith in rw e
get_d_records_from b i (suc n) (suc j) h =
    let e : suc i + j ≡ i + suc j = omega arith in
    get_d_records_from b (suc i) n j (omega arith) ∙ ap (record_at b) e

-- a part of the records from i on
pub take-file_records : (f : List ℕ) (i n m : ℕ) → m ≤ n → take m (file_records_from f i n) ≡ file_records_from f i m
unfolding file_records_from
take-file_records f i n zero h = refl
take-file_records f i zero (suc m) h = absurd (omega arith)
take-file_records f i (suc n) (suc m) h = ap (λ (x : List Rec). file_record f i ∷ x) (take-file_records f (suc i) n m (omega arith))

pub drop-file_records : (f : List ℕ) (i n m : ℕ) → drop m (file_records_from f i n) ≡ file_records_from f (i + m) (n - m)
unfolding file_records_from
drop-file_records f i n zero = let a : i + 0 ≡ i = omega arith in let b : n - 0 ≡ n = omega arith in rw (a, b)
drop-file_records f i zero (suc m) = let b : 0 - suc m ≡ 0 = omega arith in rw b
drop-file_records f i (suc n) (suc m) =
    let a : suc i + m ≡ i + suc m = omega arith in
    let b : n - m ≡ suc n - suc m = omega arith in
    drop-file_records f (suc i) n m ∙ rw (a, b)

-- a file whose records are those of l, one by one
pub records_are : (f : List ℕ) (l : List Rec) → ((i : ℕ) → i < length l → file_record f i ≡ get_or l i []) → (m i : ℕ) → i + m ≡ length l → file_records_from f i m ≡ drop i l
unfolding file_records_from
records_are f l h zero i e = sym (drop_of_length-le l {i = i} (omega arith))
records_are f l h (suc m) i e =
    rw (drop-cons l i [] (omega arith), h i (omega arith)) (ap (λ (x : List Rec). get_or l i [] ∷ x) (records_are f l h m (suc i) (omega arith)))
