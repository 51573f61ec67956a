-- The reason under which a record would stand aside behind the tree in a table; if there is none, the index is changed, if one is lent.
use Rattle.refusal.proofs.Refusals.{not_zero}
use Rattle.index_act.proofs.Stepping.{reason_is, changed_it, left_it}
use Rattle.index_act.proofs.judge_and_change.Goals as goal

pub returns-in-Ok-clause-reason : goal.returns-in-Ok-clause-reason
returns-in-Ok-clause-reason c = search (reason_is, c.in-Ok.ensures)

pub returns-in-Ok-clause-index : goal.returns-in-Ok-clause-index
returns-in-Ok-clause-index c = search (changed_it, c.in-Ok.ensures)

pub returns-in-Err-clause-reason : goal.returns-in-Err-clause-reason
returns-in-Err-clause-reason c = search (reason_is, c.in-Err.ensures)

pub returns-in-Err-clause-index : goal.returns-in-Err-clause-index
returns-in-Err-clause-index c = search (left_it, not_zero, c.in-Err.ensures)
