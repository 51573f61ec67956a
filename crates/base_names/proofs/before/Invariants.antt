-- Of the rows before row i, in the chain h, the last that has its label in its folder, and one; 0 for none.
use Rattle.base_names.proofs.Names.{Seeks}
use Rattle.base_names.proofs.before.Given as goal

abbrev pub invariant-loop-q : goal.invariant-loop-q
invariant-loop-q l = Seeks l.base l.i l.q

abbrev pub decreases-loop-q : goal.decreases-loop-q
decreases-loop-q l = l.q
