-- The blocks of a written file, one by one.
-- Assumes nothing.
use Prim.Native.Nat.{ℕ, ◌*◌, ◌≤◌, ◌<◌}
use native.Mathlib.Omega.{arith}
use mathlib.Core.Path.{◌≡◌, refl, ◌∙◌}
use mathlib.Core.List.{List, ◌++◌}
use lib.ListN.{length, take, drop}
use Rattle.model.specs.Bytes.{padded}
use Rattle.model.specs.Record.{Rec}
use Rattle.model.specs.Log.{vector_of}
use Rattle.model.specs.Block.{letters}
use Rattle.model.specs.File.{block_count, header_of, file_block, file_to, file_of, block_at}
use Rattle.byte_slice.proofs.PutAt.{length-padded}
use Rattle.block_laws.proofs.Fields.{Sized, length_block}
pub use Rattle.block_laws.proofs.Fields.{sized_take, sized_drop, six}
use Rattle.run_laws.proofs.Runs.{run_length, run_block_lem}
use Rattle.run_laws.proofs.Sab1.{block_run, to_run}

-- at most 86 blocks
pub few_blocks : (n : ℕ) → n ≤ 512 → block_count n ≤ 86
unfolding block_count
few_blocks n k = omega arith

module _ (archive u : ℕ) (l : List Rec) (z : Sized l) where
  pub length-file_block : (k : ℕ) → length (file_block archive u l k) ≡ 512
  unfolding file_block
  length-file_block k = length_block (header_of archive u k (vector_of l)) (take 6 (drop (6 * k) l)) (sized_take 6 (drop (6 * k) l) (sized_drop (6 * k) l z)) (six (drop (6 * k) l))

  pub length-file_to : (n : ℕ) → length (file_to archive u l n) ≡ 512 * n
  length-file_to n = rw (to_run archive u l n) (run_length letters refl (header_of archive u 0 (vector_of l)) l z n)

  -- block k of the first n, whatever stands behind them
  block_of_first : (n k : ℕ) (t : List ℕ) → k < n → block_at (file_to archive u l n ++ t) k ≡ file_block archive u l k
  unfolding file_block
  block_of_first n k t h =
      rw (to_run archive u l n)
      (run_block_lem letters refl (header_of archive u 0 (vector_of l)) l z n k t h ∙ block_run archive u (vector_of l) k (take 6 (drop (6 * k) l)))

  pub block_of_file : (k : ℕ) → k < block_count (length l) → block_at (padded 44032 (file_of archive u l)) k ≡ file_block archive u l k
  unfolding padded file_of
  block_of_file k h = block_of_first (block_count (length l)) k _ h

  -- an accepted writing leaves a file of the lent length
  pub length_file : length l ≤ 512 → length (padded 44032 (file_of archive u l)) ≡ 44032
  unfolding file_of
  length_file h =
      length-padded 44032 (file_to archive u l (block_count (length l))) (omega (arith, length-file_to (block_count (length l)), few_blocks (length l) h))
