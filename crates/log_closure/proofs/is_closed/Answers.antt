-- For each unit u with count c above the base vector's, the seen of record u.c is nowhere above s.
use mathlib.Core.Path.{refl}
use Rattle.model.specs.Vector.{covers_to}
use Rattle.model.specs.Log.{all_to}
use Rattle.log_closure.proofs.Closed.{place_inside, row_next, none_counted, none_above, one_above, all_closed}
use borrow.Author.Rules.{rules}
use Rattle.log_closure.proofs.is_closed.Goals as goal

pub units-init : goal.units-init
unfolding all_to
units-init c = (refl, refl)

pub units-preserved-then-c-f : goal.units-preserved-then-c-f
units-preserved-then-c-f c = (search rules, search (none_counted))

pub loop-v-init : goal.loop-v-init
unfolding covers_to
loop-v-init c = (refl, search (place_inside), refl)

pub loop-v-preserved : goal.loop-v-preserved
loop-v-preserved c = (search rules, search rules, search (row_next))

pub units-preserved : goal.units-preserved
units-preserved c = (cc, search (none_above))

pub returns-after-units : goal.returns-after-units
returns-after-units c = search (all_closed)

pub returns-then-s-v : goal.returns-then-s-v
returns-then-s-v c = search (one_above)
