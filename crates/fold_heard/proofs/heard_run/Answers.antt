-- How many records from the first on are within what every listed unit has heard.
use Rattle.fold_heard.proofs.Lowest.{run_is}
use borrow.Author.Rules.{rules}
use Rattle.fold_heard.proofs.heard_run.Goals as goal

pub returns : goal.returns
returns c = (search (run_is), search rules)
