-- Of the bytes of a text: 7 if one may not stand and is no stroke, 24 if one is a stroke; or 0.
use mathlib.Core.Path.{refl}
use Rattle.act_label.specs.Label.{stand_to, plain_to}
use Rattle.act_label.proofs.Bytes.{stand_next, plain_next, all_stand, some_stroke, other_byte}
use Rattle.act_label.proofs.check_text.Goals as goal

ruleset ways = (all_stand, some_stroke, other_byte)

pub loop-x-init : goal.loop-x-init
unfolding stand_to plain_to
loop-x-init c = (refl, refl)

pub loop-x-preserved : goal.loop-x-preserved
loop-x-preserved c = (search stand_next, search plain_next)

pub returns-then-stand : goal.returns-then-stand
returns-then-stand c = search ways

pub returns-then-plain : goal.returns-then-plain
returns-then-plain c = search ways

pub returns : goal.returns
returns c = search ways
