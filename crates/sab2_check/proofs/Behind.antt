-- Where the records of an SAB2 file without a fault stand, and how many they are.
-- Assumes nothing.
use Prim.Native.Nat.{ℕ, ◌-◌, ◌*◌, ◌/◌, ◌≤◌}
use native.Mathlib.Omega.{arith}
use mathlib.Core.Path.{◌≡◌}
use mathlib.Core.List.{List}
use lib.ListN.{length, take, drop, length-drop}
use lib.Seq.{take_all}
use Rattle.model.specs.File.{blocks_in, records_counted, file_records}
use Rattle.sab2_model.specs.Sab2.{row_blocks, sab2_blocks_fault, record_part, sab2_records, checked_sab2}
use Rattle.run_laws.proofs.Records.{length-file_records}
use Rattle.sab2_laws.proofs.Rewritten.{lengths, blocks_right, records_few, row_blocks_right}
use Rattle.sab2_check.proofs.Checks.{part_length, part_few}

module _ (f : List ℕ) (z : (checked_sab2 f).number ≡ 0) where
  pub whole : length f ≡ 512 * (length f / 512)
  unfolding blocks_in
  whole = (lengths f z).0

  some : 1 ≤ length f / 512
  unfolding blocks_in
  some = (lengths f z).1

  pub many : length f / 512 ≤ 186
  unfolding blocks_in
  many = (lengths f z).2

  pub first_block : 512 ≤ length f
  first_block = omega (arith, whole, some)

  blocks_pass : (sab2_blocks_fault f).number ≡ 0
  unfolding sab2_blocks_fault
  blocks_pass = blocks_right f z

  module _ {p : ℕ} (ep : p ≡ row_blocks f) where
    pub front : p ≤ length f / 512
    unfolding blocks_in
    front = omega (arith, row_blocks_right f z)

    pub part_end : 512 * (length f / 512) ≤ length f
    part_end = omega (arith, whole)

    pub part_order : 512 * p ≤ 512 * (length f / 512)
    part_order = omega (arith, front)

    pub few_left : length f / 512 - p ≤ 186
    few_left = omega (arith, many)

    pub behind-length : length (take (512 * (length f / 512) - 512 * p) (drop (512 * p) f)) ≡ 512 * (length f / 512 - p)
    behind-length = part_length f (length f / 512) whole some blocks_pass ep

    pub behind_few : records_counted (take (512 * (length f / 512) - 512 * p) (drop (512 * p) f)) ≤ 6 * (length f / 512 - p)
    behind_few = part_few f (length f / 512) whole some blocks_pass ep

    pub part_is : take (512 * (length f / 512) - 512 * p) (drop (512 * p) f) ≡ record_part f
    unfolding record_part
    part_is = rw ep (take_all (512 * (length f / 512) - 512 * row_blocks f) (drop (512 * row_blocks f) f) (omega (arith, whole, length-drop (512 * row_blocks f) f)))

    pub behind_fits : records_counted (take (512 * (length f / 512) - 512 * p) (drop (512 * p) f)) ≤ 512
    unfolding sab2_records file_records
    behind_fits = rw part_is (omega (arith, length-file_records (record_part f) 0 (records_counted (record_part f)), records_few f z))
