-- The records of the second file that a vector lacks are laid one behind another; their count is returned.
use Prim.Native.Nat.{◌≤◌, ◌*◌}
use mathlib.Core.Path.{◌≡◌}
use lib.ListN.{length}
use Rattle.model.specs.Bytes.{joined, put_at}
use Rattle.model.specs.Log.{lacking}
use Rattle.log_check.specs.declared.Layout.TheVariants.{File}
use Rattle.log_check.specs.Places.{laid_at}
use Rattle.log_check.specs.InOrder.{listed}
use Rattle.merge_join.proofs.gather_new.Given as goal

abbrev pub invariant-loop-i : goal.invariant-loop-i
invariant-loop-i l = (l.k ≤ l.i)
    × (length l.recs ≡ 44032)
    × (length l.initial.recs ≡ 44032)
    × (l.k ≡ length (lacking l.held.counts (listed (laid_at File l.second) 0 l.i)))
    × (length (joined (lacking l.held.counts (listed (laid_at File l.second) 0 l.i))) ≡ 80 * l.k)
    × (l.recs ≡ put_at l.initial.recs 0 (joined (lacking l.held.counts (listed (laid_at File l.second) 0 l.i))))
