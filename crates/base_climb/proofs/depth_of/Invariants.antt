-- How far row i is from the top; none if that is more than n, or never.
use Rattle.base_climb.proofs.Climbing.{Climbing}
use Rattle.base_climb.proofs.depth_of.Given as goal

abbrev pub invariant-loop-t : goal.invariant-loop-t
invariant-loop-t l = Climbing l.ups l.n l.i l.t l.q
