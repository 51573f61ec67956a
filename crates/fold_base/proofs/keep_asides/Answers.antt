-- The rows of the first m asides of a table.
use Rattle.fold_base.proofs.Keeping.{asides_laid}
use Rattle.fold_base.proofs.keep_asides.Goals as goal

pub returns : goal.returns
returns c = search (asides_laid)
