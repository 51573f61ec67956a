-- The role of an identity, looked for in its chain.
use Rattle.tree_table.specs.Rows.{tree_in}
use Rattle.tree_lookup.proofs.Names.{Tracing}
use Rattle.tree_lookup.proofs.role_of.Given as goal

abbrev pub invariant-loop-q : goal.invariant-loop-q
invariant-loop-q l = Tracing l.register (tree_in l.table l.size.entries l.size.asides) l.k l.q

abbrev pub decreases-loop-q : goal.decreases-loop-q
decreases-loop-q l = l.q
