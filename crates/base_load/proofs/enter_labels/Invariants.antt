-- The labels of all entries.
use mathlib.Core.Path.{◌≡◌}
use lib.ListN.{length}
use Rattle.base_load.specs.Loading.{Entering}
use Rattle.base_load.proofs.enter_labels.Given as goal

abbrev pub invariant-loop-i : goal.invariant-loop-i
invariant-loop-i l = (length l.register ≡ length l.initial.register) × Entering l.base l.register l.size.entries l.size.asides l.i
