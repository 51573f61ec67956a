-- The first records that a vector lacks, at most so many, are laid one behind another; their count is returned.
use Rattle.hand_out_pick.proofs.Gathered.{gathered}
use Rattle.model.specs.Bytes.{padded, joined}
use lib.ListN.{length}
use mathlib.Core.Path.{◌≡◌}
use Prim.Native.Nat.{◌*◌, ◌≤◌}
use Rattle.hand_out_pick.proofs.gather_most.Given as goal

abbrev pub invariant-loop-i : goal.invariant-loop-i
invariant-loop-i l = (l.used ≤ 512) × (l.n ≤ l.most) × (length l.recs ≡ 80 * l.most) × (l.n ≡ length (gathered l.v.counts l.log l.i)) × (l.recs ≡ padded (80 * l.most) (joined (gathered l.v.counts l.log l.i)))
