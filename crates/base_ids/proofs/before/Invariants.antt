-- Of the first i identities the last that is k, and one; 0 for none.
use Rattle.base_ids.proofs.Ids.{Seeks}
use Rattle.base_ids.proofs.before.Given as goal

abbrev pub invariant-loop-q : goal.invariant-loop-q
invariant-loop-q l = Seeks l.base l.n l.k l.i l.q

abbrev pub decreases-loop-q : goal.decreases-loop-q
decreases-loop-q l = l.q
