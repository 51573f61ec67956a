-- An accepted file, written again under its own archive and unit, gives the same bytes.
-- Assumes nothing.
use Prim.Native.Nat.{ℕ, ◌+◌, ◌-◌, ◌*◌, ◌/◌, ◌%◌, ◌≤◌, ◌<◌}
use native.Mathlib.Omega.{arith}
use mathlib.Core.Path.{◌≡◌, sym, ap, ◌∙◌}
use mathlib.Core.Logic.{⊎_elim}
use mathlib.Core.Bool.{true, false, ◌&&◌}
use mathlib.Core.List.{List, [], ◌++◌}
use lib.Dec.{leb, eqb}
use lib.ListN.{length, take, drop}
use borrow.Author.Tests.{eqb-true, eqb-false, leb-true}
use Rattle.model.specs.Bytes.{same_bytes}
use Rattle.model.specs.Vector.{blocks_for}
use Rattle.model.specs.Log.{vector_of}
use Rattle.model.specs.Block.{Header, letters, archive_in, sender_in, vector_in, block_records}
use Rattle.model.specs.File.{block_count, header_of, file_of, file_length, blocks_in, block_at, fault, blocks_fault, records_counted, file_records_from, file_records, records_fault, counts_fault, or_else, file_fault, checked_fault}
use Rattle.call_model.specs.Read.{not_read, read_back, read_of}
use Rattle.run_model.specs.Runs.{behind, run_to}
use Rattle.run_model.specs.Blocks.{blocks_fault_as}
use Rattle.byte_slice.proofs.Numbers.{bool_cases, and_true}
use Rattle.byte_slice.proofs.Compare.{same_eq}
use Rattle.call_laws.proofs.Reading.{no_fault, checked-right}
use Rattle.run_laws.specs.Fits.{Agreeing}
use Rattle.run_laws.proofs.Records.{length-file_records}
use Rattle.run_laws.proofs.Again.{Bytes}
use Rattle.run_laws.proofs.Runs.{rows_right}
use Rattle.run_laws.proofs.Rewritten as Runs
use Rattle.run_laws.proofs.Sab1.{to_run, no_rows_run, blocks_fault_sab1, holds-count}

-- ---- what acceptance means

pub read_accepted : (log base f : List ℕ) → (read_of log base f).number ≡ 0 → (file_length f ≡ true) × ((file_fault f).number ≡ 0) × (read_of log base f ≡ read_back f)
unfolding read_of not_read
read_accepted log base f e =
    ⊎_elim
    (λ (a : (eqb (length log) 40960 && eqb (length base) 43032) ≡ true).
    ⊎_elim
    (λ (c : eqb (checked_fault f).number 0 ≡ true). let (x, y) = checked-right f (eqb-true (checked_fault f).number 0 c) in (x, y, rw (a, c)))
    (λ (c : eqb (checked_fault f).number 0 ≡ false). let z : (checked_fault f).number ≡ 0 = rw (a, c) at e in absurd (eqb-false (checked_fault f).number 0 c z))
    (bool_cases (eqb (checked_fault f).number 0)))
    (λ (a : (eqb (length log) 40960 && eqb (length base) 43032) ≡ false). let z : ◌≡◌ {A = ℕ} 1 0 = rw a at e in absurd (omega arith))
    (bool_cases (eqb (length log) 40960 && eqb (length base) 43032))

-- 1 to 86 whole blocks
pub whole : (f : List ℕ) → file_length f ≡ true → (length f ≡ 512 * blocks_in f) × (1 ≤ blocks_in f) × (blocks_in f ≤ 86)
unfolding file_length blocks_in
whole f a =
    let (p, q) = and_true (eqb (length f % 512) 0) (leb 1 (length f / 512) && leb (length f / 512) 86) a in
    let (r, s) = and_true (leb 1 (length f / 512)) (leb (length f / 512) 86) q in
    (omega (arith, eqb-true (length f % 512) 0 p), leb-true 1 (length f / 512) r, leb-true (length f / 512) 86 s)

-- ---- the file

module _ (f : List ℕ) (a : file_length f ≡ true) (e : (file_fault f).number ≡ 0) where
  abbrev n : ℕ
  n = blocks_in f

  pub lengths : (length f ≡ 512 * n) × (1 ≤ n)
  lengths = let (x, y, _) = whole f a in (x, y)

  faults : ((blocks_fault_as letters 0 f 0 n).number ≡ 0) × ((counts_fault f).number ≡ 0)
  unfolding file_fault
  faults =
      let (p, q) = no_fault (blocks_fault f 0 n) (or_else (records_fault [] 0 (file_records f)) (counts_fault f)) e in
      (rw (blocks_fault_sab1 f n 0) at p, (no_fault (records_fault [] 0 (file_records f)) (counts_fault f) q).1)

  pub agreeing : (k : ℕ) → k < n → Agreeing letters 0 f k
  agreeing = Runs.agreeing letters 0 f lengths.0 lengths.1 faults.0

  pub vector_right : vector_in (block_at f 0) ≡ vector_of (file_records f)
  unfolding counts_fault fault
  vector_right =
      let d : (counts_fault f).number ≡ 0 = faults.1 in
      ⊎_elim
      (λ (h : same_bytes (vector_in (block_at f 0)) (vector_of (file_records f)) ≡ true). same_eq (vector_in (block_at f 0)) (vector_of (file_records f)) h)
      (λ (h : same_bytes (vector_in (block_at f 0)) (vector_of (file_records f)) ≡ false). let z : ◌≡◌ {A = ℕ} 20 0 = rw h at d in absurd (omega arith))
      (bool_cases (same_bytes (vector_in (block_at f 0)) (vector_of (file_records f))))

  -- the records of block k
  pub records_right : (k : ℕ) → k < n → take 6 (drop (6 * k) (file_records f)) ≡ block_records (block_at f k)
  unfolding file_records blocks_for
  records_right k h = rows_right letters _ (records_counted f) f k (Runs.record_fits letters 0 f lengths.0 lengths.1 faults.0 k (omega arith))

  pub length-right : block_count (length (file_records f)) ≡ blocks_in f
  unfolding file_records blocks_for
  length-right =
      let z : n - 0 ≡ n = omega arith in
      rw (length-file_records f 0 (records_counted f)) (holds-count (records_counted f) (n - 0) (Runs.held letters 0 f lengths.0 lengths.1 faults.0) ∙ z)

  pub sender_right : sender_in (block_at f 0) ≤ 7
  sender_right = Runs.sender_right letters 0 f lengths.0 lengths.1 faults.0

  module _ (g : Bytes f) where
    again : run_to letters (header_of (archive_in (block_at f 0)) (sender_in (block_at f 0)) 0 (vector_in (block_at f 0))) (file_records f) n ≡ f
    unfolding blocks_for file_records_from
    again =
        let z : n - 0 ≡ n = omega arith in
        let H : Header = header_of (archive_in (block_at f 0)) (sender_in (block_at f 0)) 0 (vector_in (block_at f 0)) in
        sym (no_rows_run letters H (file_records f) n)
        ∙ ap (λ (m : ℕ). run_to letters H [] (blocks_for 0) ++ run_to letters (behind H (blocks_for 0)) (file_records f) m) (sym z)
        ∙ Runs.file_again letters 0 f lengths.0 lengths.1 faults.0 g

    pub file_again : file_of (archive_in (block_at f 0)) (sender_in (block_at f 0)) (file_records f) ≡ f
    unfolding file_of
    file_again = rw (length-right, to_run (archive_in (block_at f 0)) (sender_in (block_at f 0)) (file_records f) n, ← vector_right) again
