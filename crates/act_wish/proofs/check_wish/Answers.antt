-- 7 for a wish that is not the unit's own, or whose number and seen are not zero, or whose record is not well formed; 24 for a
-- stroke in its label; or 0.
use Rattle.act_wish.proofs.Stamping.{other_unit, not_blank, not_formed, label_tells}
use Rattle.act_wish.proofs.check_wish.Goals as goal

ruleset ways = (other_unit, not_blank, not_formed, label_tells)

pub returns-then-wish-unit : goal.returns-then-wish-unit
returns-then-wish-unit c = search ways

pub returns-then-not-is_blank : goal.returns-then-not-is_blank
returns-then-not-is_blank c = search ways

pub returns-then-not-body_fits : goal.returns-then-not-body_fits
returns-then-not-body_fits c = search ways

pub returns : goal.returns
returns c = search ways
