-- The rows and roles of all asides.
use mathlib.Core.Path.{◌≡◌}
use lib.ListN.{length}
use Rattle.base_load.specs.Loading.{Loading}
use Rattle.base_load.proofs.add_asides.Given as goal

abbrev pub invariant-loop-j : goal.invariant-loop-j
invariant-loop-j l = (length l.table ≡ length l.initial.table) × (length l.register ≡ length l.initial.register) × Loading l.base l.table l.register l.size.entries l.j
