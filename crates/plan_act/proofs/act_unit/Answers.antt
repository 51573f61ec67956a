-- The act of one unit, whose log is good: it is not checked again.
use Rattle.state_check.proofs.Standing.{head-stands}
use Rattle.plan_act.proofs.Acting.{base_long, base_head, log_long, state_sound, held_is, list_is, acts}
use borrow.Author.Rules.{rules}
use Rattle.plan_act.proofs.act_unit.Goals as goal

pub head_of-head-requires : goal.head_of-head-requires
head_of-head-requires c = search (base_head)

pub used-used-requires : goal.used-used-requires
used-used-requires c = search (log_long)

pub act_on-requires : goal.act_on-requires
act_on-requires c = (search (head-stands, log_long, base_long, state_sound, held_is, rules), search (list_is), search rules, search rules, search rules)

pub returns : goal.returns
returns c = search (acts)
