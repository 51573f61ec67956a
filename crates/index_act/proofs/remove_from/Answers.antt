-- The entry in a row is taken out of the index.
use Rattle.index_act.proofs.Changes.{removed}
use Rattle.index_act.proofs.remove_from.Goals as goal

pub returns : goal.returns
returns c = search (removed)
