-- Of the bytes of a text: 7 if one may not stand and is no stroke, 24 if one is a stroke; or 0.
use mathlib.Core.Path.{◌≡◌}
use Rattle.act_label.specs.Label.{stand_to, plain_to}
use Rattle.act_label.proofs.check_text.Given as goal

abbrev pub invariant-loop-x : goal.invariant-loop-x
invariant-loop-x l = (l.stand ≡ stand_to l.text l.x-index) × (l.plain ≡ plain_to l.text l.x-index)
