-- Of each unit the lower of two counts.
use Rattle.fold_heard.proofs.Lowest.{lower_least, lowers_written}
use Rattle.fold_heard.proofs.lower.Goals as goal

pub returns : goal.returns
returns c = search (lower_least, lowers_written)
