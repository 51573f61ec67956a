-- The list names each unit that the vector counts records of.
use mathlib.Core.Path.{◌≡◌}
use Rattle.model.specs.Log.{all_to}
use Rattle.base_head.proofs.Listed.{passes}
use Rattle.base_head.proofs.lists_all.Given as goal

abbrev pub invariant-loop-u : goal.invariant-loop-u
invariant-loop-u l = l.all ≡ all_to l.u (passes l.list l.v.counts)
