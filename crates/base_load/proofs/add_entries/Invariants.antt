-- The rows and roles of all entries.
use mathlib.Core.Path.{◌≡◌}
use lib.ListN.{length}
use Rattle.base_load.specs.Loading.{Loading}
use Rattle.base_load.proofs.add_entries.Given as goal

abbrev pub invariant-loop-i : goal.invariant-loop-i
invariant-loop-i l = (length l.table ≡ length l.initial.table) × (length l.register ≡ length l.initial.register) × Loading l.base l.table l.register l.i 0
