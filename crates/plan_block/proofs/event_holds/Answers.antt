-- An event is one: kind 1 or 2, and what that kind asks.
use Rattle.plan_block.proofs.Events.{is_act, is_none, is_pass}
use Rattle.plan_block.proofs.event_holds.Goals as goal

pub returns-then-kind-eq1 : goal.returns-then-kind-eq1
returns-then-kind-eq1 c = search (is_act)

pub returns-then-kind-ne2 : goal.returns-then-kind-ne2
returns-then-kind-ne2 c = search (is_none)

pub returns : goal.returns
returns c = search (is_pass)
