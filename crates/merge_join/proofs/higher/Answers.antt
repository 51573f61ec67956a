-- Of each unit the higher count.
use Rattle.merge_join.proofs.Gathered.{higher_is}
use Rattle.merge_join.proofs.higher.Goals as goal

pub returns : goal.returns
returns c = search (higher_is)
