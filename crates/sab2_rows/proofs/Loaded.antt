-- The base that the rows of a file leave.
-- Assumes nothing.
use Prim.Native.Nat.{ℕ, zero, suc, ◌+◌, ◌-◌, ◌*◌, ◌/◌, ◌%◌, ◌≤◌, ◌<◌}
use native.Mathlib.Numerals.{add-one}
use native.Mathlib.Omega.{arith}
use mathlib.Core.Path.{◌≡◌, refl, sym, ◌∙◌}
use mathlib.Core.Bool.{Bool, true, false, ◌&&◌}
use mathlib.Core.List.{List, []}
use lib.ListN.{get_or, length, take, drop, replicate}
use lib.Seq.{take-take, drop-drop}
use borrow.Author.Tests.{le-leb, lt-leb}
use Rattle.model.specs.Lengths.{base_size, base_places}
use Rattle.model.specs.Bytes.{word, blank, part, put_at}
use Rattle.model.specs.Vector.{blocks_for}
use Rattle.model.specs.Log.{all_to}
use Rattle.model.specs.File.{file_record, file_records_from}
use Rattle.byte_slice.proofs.Parts.{drop-take}
use Rattle.byte_slice.proofs.Words.{word-part}
use Rattle.byte_slice.proofs.Numbers.{not_both}
use Rattle.base_links.proofs.Links.{all_next, all_ends, all_none}
use Rattle.run_laws.proofs.Records.{length-file_records}
use Rattle.sab2_model.specs.Rows.{row_count, rows_said, row_start, row_long, base_to, base_from, tail_blank, rows_hold_for, rows_hold}
use Rattle.sab2_model.specs.Sab2.{said_rows, row_blocks, sab2_rows, sab2_base}

-- ---- one row

-- the bytes of a row, and what stands behind them
pub row_put : (f b : List ℕ) (i e a : ℕ) {p n : ℕ} {o : List ℕ} → p ≡ row_start e i → n ≡ row_long e a i → n ≤ 72
    → o ≡ put_at b p (take (512 * (i / 6) + (28 + 80 * (i % 6)) + n - (512 * (i / 6) + (28 + 80 * (i % 6)))) (drop (512 * (i / 6) + (28 + 80 * (i % 6))) f))
    → o ≡ put_at b (row_start e i) (take (row_long e a i) (file_record f i))
unfolding file_record part
row_put f b i e a {p} {n} hp hn few h =
    let at : ℕ = 512 * (i / 6) + (28 + 80 * (i % 6)) in
    let m : at + n - at ≡ n = omega arith in
    let t : take n (take 80 (drop at f)) ≡ take n (drop at f) = take-take n 80 (drop at f) (omega arith) in
    h ∙ rw (m, ← hp, ← hn, t)

pub row_tail : (f : List ℕ) (i e a : ℕ) {n : ℕ} {t : Bool} → n ≡ row_long e a i → n ≤ 72
    → t ≡ blank (take (512 * (i / 6) + (28 + 80 * (i % 6)) + 80 - (512 * (i / 6) + (28 + 80 * (i % 6)) + n)) (drop (512 * (i / 6) + (28 + 80 * (i % 6)) + n) f))
    → t ≡ blank (drop (row_long e a i) (file_record f i))
unfolding file_record part
row_tail f i e a {n} hn few h =
    let at : ℕ = 512 * (i / 6) + (28 + 80 * (i % 6)) in
    let m : at + 80 - (at + n) ≡ 80 - n = omega arith in
    let d : drop n (take 80 (drop at f)) ≡ take (80 - n) (drop (at + n) f) = drop-take n 80 (drop at f) ∙ rw (drop-drop n at f) in
    h ∙ rw (m, ← hn, d)

-- ---- one row after another

record_at_lem : (f : List ℕ) (i n j : ℕ) → j < n → get_or (file_records_from f i n) j [] ≡ file_record f (i + j)
unfolding file_records_from
record_at_lem f i zero j h = absurd (omega arith)
record_at_lem f i (suc n) zero h = let e : i + 0 ≡ i = omega arith in rw e
record_at_lem f i (suc n) (suc j) h = let e : i + suc j ≡ suc i + j = omega arith in rw e (record_at_lem f (suc i) n j (omega arith))

row_of_lem : (f : List ℕ) (n i : ℕ) → i < n → get_or (file_records_from f 0 n) i [] ≡ file_record f i
row_of_lem f n i h = record_at_lem f 0 n i h ∙ (let e : 0 + i ≡ i = omega arith in rw e)

module _ (f : List ℕ) (e a n : ℕ) where
  pub begun : (d : List ℕ) {o : List ℕ} → length d ≡ base_size → o ≡ replicate (length d) 0 → o ≡ base_to (file_records_from f 0 n) e a 0
  unfolding base_to
  begun d l h = h ∙ rw l

  pub one_loaded : (i : ℕ) {d o : List ℕ} → i < n → d ≡ base_to (file_records_from f 0 n) e a i → o ≡ put_at d (row_start e i) (take (row_long e a i) (file_record f i)) → o ≡ base_to (file_records_from f 0 n) e a (i + 1)
  unfolding base_to
  one_loaded i h hd ho = ho ∙ rw (hd, add-one i, row_of_lem f n i h)

  pub one_blank : (i : ℕ) {t u : Bool} → i < n → t ≡ all_to i (tail_blank (file_records_from f 0 n) e a) → u ≡ blank (drop (row_long e a i) (file_record f i)) → (t && u) ≡ all_to (i + 1) (tail_blank (file_records_from f 0 n) e a)
  unfolding tail_blank
  one_blank i h ht hu = all_next (tail_blank (file_records_from f 0 n) e a) i ht (hu ∙ rw (row_of_lem f n i h))

  pub none-blank : true ≡ all_to 0 (tail_blank (file_records_from f 0 n) e a)
  none-blank = all_none (tail_blank (file_records_from f 0 n) e a)

  pub all_loaded : (i : ℕ) {o : List ℕ} → i ≤ n → n ≤ i → o ≡ base_to (file_records_from f 0 n) e a i → o ≡ base_to (file_records_from f 0 n) e a n
  all_loaded i h g p = let q : i ≡ n = omega arith in rw q at p

  pub all_blank : (i : ℕ) {t : Bool} → i ≤ n → n ≤ i → t ≡ all_to i (tail_blank (file_records_from f 0 n) e a) → t ≡ all_to n (tail_blank (file_records_from f 0 n) e a)
  all_blank i h g p = all_ends (tail_blank (file_records_from f 0 n) e a) i n h g p

-- a row lies within the blocks of the rows
pub row_inside : (f : List ℕ) (n i : ℕ) → i < n → 512 * blocks_for n ≤ length f → 512 * (i / 6) + 512 ≤ length f
unfolding blocks_for
row_inside f n i h g = omega arith

-- ---- what the head says

pub head_word : (f : List ℕ) (at : ℕ) {n : ℕ} → at < 24 → n ≡ word f (28 + at) → n ≡ word (file_record f 0) at
unfolding file_record
head_word f at h e = e ∙ sym (word-part f 28 80 at (omega arith))

pub none-loaded : (o s : List ℕ) → false ≡ true → o ≡ s
none-loaded o s e = absurd (not_both false e refl)

module _ (f : List ℕ) {e a : ℕ} (he : e ≡ word (file_record f 0) 2) (ha : a ≡ word (file_record f 0) 4) where
  pub rows_are_said : {n : ℕ} → n ≡ row_count e a → n ≡ said_rows f
  unfolding said_rows rows_said
  rows_are_said h = h ∙ rw (he, ha)

  -- the first row is the head
  first_row : get_or (sab2_rows f) 0 [] ≡ file_record f 0
  unfolding sab2_rows said_rows rows_said row_count file_records_from
  first_row = refl

  length_said : length (sab2_rows f) ≡ said_rows f
  unfolding sab2_rows
  length_said = length-file_records f 0 (said_rows f)

  holds_as : (n : ℕ) → n ≡ said_rows f → rows_hold (sab2_rows f) ≡ rows_hold_for (sab2_rows f) e a n
  unfolding rows_hold
  holds_as n hn = rw (first_row, length_said, ← he, ← ha, ← hn)

  pub many_entries : base_places < e → false ≡ rows_hold (sab2_rows f)
  unfolding rows_hold_for
  many_entries h = rw (holds_as (said_rows f) refl, lt-leb e base_places h)

  pub many_asides : e ≤ base_places → base_places < a → false ≡ rows_hold (sab2_rows f)
  unfolding rows_hold_for
  many_asides g h = rw (holds_as (said_rows f) refl, le-leb e base_places g, lt-leb a base_places h)

  module _ {n : ℕ} (g : e ≤ base_places) (h : a ≤ base_places) (hn : n ≡ row_count e a) where
    pub tails_decide : {t : Bool} → t ≡ all_to n (tail_blank (file_records_from f 0 n) e a) → t ≡ rows_hold (sab2_rows f)
    unfolding rows_hold_for sab2_rows
    tails_decide k = k ∙ rw (holds_as n (rows_are_said hn), le-leb e base_places g, le-leb a base_places h, ← rows_are_said hn)

    pub base_loaded : {o : List ℕ} → o ≡ base_to (file_records_from f 0 n) e a n → o ≡ sab2_base f
    unfolding sab2_base base_from sab2_rows
    base_loaded k = k ∙ rw (first_row, length_said, ← he, ← ha, ← rows_are_said hn)

    pub rows_room : 512 * row_blocks f ≤ length f → 512 * blocks_for n ≤ length f
    unfolding row_blocks
    rows_room k = rw (rows_are_said hn) k
