-- The head: the list, the counts of the rows, the vector.
use Rattle.fold_base.specs.Written.{headed}
use Rattle.fold_base.proofs.fill_head.Goals as goal

pub returns : goal.returns
unfolding headed
returns c = cc
