-- A quick test before `is_closed`, which it spares where every row is covered.
use mathlib.Core.Path.{refl}
use Rattle.model.specs.Log.{all_to}
use Rattle.log_closure.proofs.Closed.{units_next, unit_open, units_all}
use Rattle.log_closure.proofs.all_covered.Goals as goal

pub loop-u-init : goal.loop-u-init
unfolding all_to
loop-u-init c = refl

pub returns-then-not-unit_covered : goal.returns-then-not-unit_covered
returns-then-not-unit_covered c = search (unit_open)

pub loop-u-preserved : goal.loop-u-preserved
loop-u-preserved c = search (units_next)

pub returns : goal.returns
returns c = search (units_all)
