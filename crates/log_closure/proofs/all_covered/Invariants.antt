-- A quick test before `is_closed`, which it spares where every row is covered.
use mathlib.Core.Path.{◌≡◌}
use mathlib.Core.Bool.{true}
use Rattle.model.specs.Log.{all_to}
use Rattle.log_closure.specs.Tables.{unit_closed}
use Rattle.log_closure.proofs.all_covered.Given as goal

abbrev pub invariant-loop-u : goal.invariant-loop-u
invariant-loop-u l = all_to l.u (unit_closed l.base.counts l.places l.seens l.s.counts) ≡ true
