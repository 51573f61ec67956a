-- The row of the holder of a label in the folder f, other than the entry k, unless the label is free; the chain of the label is given.
use Rattle.tree_lookup.proofs.Labels.{Seeking}
use Rattle.tree_lookup.proofs.holder_at.Given as goal

abbrev pub invariant-loop-q : goal.invariant-loop-q
invariant-loop-q l = Seeking l.table l.register l.initial.best l.k l.f l.label l.best l.q

abbrev pub decreases-loop-q : goal.decreases-loop-q
decreases-loop-q l = l.q
