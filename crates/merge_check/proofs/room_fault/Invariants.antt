-- The first of the second file's records that is one too many behind the used ones of the first.
use Prim.Native.Nat.{◌≤◌, ◌-◌}
use mathlib.Core.Path.{◌≡◌}
use Rattle.log_check.specs.declared.Layout.TheVariants.{File}
use Rattle.log_check.specs.Places.{laid_at}
use Rattle.log_check.specs.InOrder.{listed}
use Rattle.model.specs.Merge.{room_fault}
use Rattle.merge_check.proofs.room_fault.Given as goal

abbrev pub invariant-loop-i : goal.invariant-loop-i
invariant-loop-i l = (l.n ≤ 512) × (room_fault l.held.counts l.n l.i (listed (laid_at File l.second) l.i (l.total - l.i)) ≡ room_fault l.held.counts l.used 0 (listed (laid_at File l.second) 0 l.total))
