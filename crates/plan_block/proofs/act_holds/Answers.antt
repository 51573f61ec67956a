-- An act's event: a unit of 0 to 7, the two bytes behind it zero, a record of that unit with number and seen zero.
use Rattle.plan_block.proofs.Events.{act_above, act_other, act_strange, act_decides}
use Rattle.plan_block.proofs.act_holds.Goals as goal

pub returns-then-u-gt7 : goal.returns-then-u-gt7
returns-then-u-gt7 c = search (act_above)

pub returns-then-not-is_blank : goal.returns-then-not-is_blank
returns-then-not-is_blank c = search (act_other)

pub returns-then-e-u : goal.returns-then-e-u
returns-then-e-u c = search (act_strange)

pub returns : goal.returns
returns c = search (act_decides)
