-- Row i is k steps from the top: this is kept of it and of the rows on its way, up to one of which it is known.
use Prim.Native.Nat.{◌≤◌, ◌<◌}
use lib.ListN.{get_or}
use Rattle.base_climb.specs.Climb.{Exact, Known}
use Rattle.base_climb.proofs.mark.Given as goal

abbrev pub invariant-loop-depths : goal.invariant-loop-depths
invariant-loop-depths l = (l.row < 512) × (l.left ≤ 512) × Known l.ups l.depths × Exact l.ups (get_or l.ups l.row 0) l.left

abbrev pub decreases-loop-depths : goal.decreases-loop-depths
decreases-loop-depths l = l.left
