-- The first of the second file's records that the first file has with other bytes.
use Prim.Native.Nat.{◌-◌}
use mathlib.Core.Path.{◌≡◌}
use Rattle.model.specs.File.{file_records}
use Rattle.log_check.specs.declared.Layout.TheVariants.{File}
use Rattle.log_check.specs.Places.{laid_at}
use Rattle.log_check.specs.InOrder.{listed}
use Rattle.model.specs.Merge.{bytes_fault}
use Rattle.merge_check.proofs.bytes_fault.Given as goal

abbrev pub invariant-loop-i : goal.invariant-loop-i
invariant-loop-i l = bytes_fault (file_records l.first) l.i (listed (laid_at File l.second) l.i (l.total - l.i)) ≡ bytes_fault (file_records l.first) 0 (listed (laid_at File l.second) 0 l.total)
