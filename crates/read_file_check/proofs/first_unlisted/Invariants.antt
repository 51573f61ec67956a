-- The first of n records of a unit that the list does not name.
use Rattle.read_file_check.specs.Listed.{unlisted_from}
use Rattle.log_check.specs.Places.{laid_at}
use Rattle.log_check.specs.declared.Layout.TheVariants.{File}
use mathlib.Core.Path.{◌≡◌}
use Prim.Native.Nat.{◌-◌}
use Rattle.read_file_check.proofs.first_unlisted.Given as goal

abbrev pub invariant-loop-i : goal.invariant-loop-i
invariant-loop-i l = unlisted_from l.list (laid_at File l.part) l.i (l.n - l.i) ≡ unlisted_from l.list (laid_at File l.part) 0 l.n
