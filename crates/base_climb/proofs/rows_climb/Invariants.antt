-- The first n rows one after another, by what is known of them.
use mathlib.Core.Path.{◌≡◌}
use mathlib.Core.Bool.{true}
use Rattle.model.specs.Log.{all_to}
use Rattle.base_climb.specs.Climb.{climbs_from, Known}
use Rattle.base_climb.proofs.rows_climb.Given as goal

abbrev pub invariant-loop-i : goal.invariant-loop-i
invariant-loop-i l = (true ≡ all_to l.i (climbs_from l.ups l.n)) × Known l.ups l.depths
