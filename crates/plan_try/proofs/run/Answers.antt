-- A plan that passed its checks, from whatever was lent.
use Rattle.plan_try.proofs.Running.{cleared, logs_are, skipped_are}
use borrow.Author.Rules.{rules}
use Rattle.plan_try.proofs.run.Goals as goal

pub run_blocks-t-requires : goal.run_blocks-t-requires
run_blocks-t-requires c = (search rules, search (cleared), search rules, search rules)

pub returns-clause-ran : goal.returns-clause-ran
returns-clause-ran c = (search (logs_are), search (skipped_are))

pub returns-clause-emptied : goal.returns-clause-emptied
returns-clause-emptied c = (search rules, search (cleared))
