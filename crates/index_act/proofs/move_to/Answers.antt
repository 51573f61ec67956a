-- The entry in a row gets a folder, and the label of a record, in the index.
use Rattle.index_act.proofs.Changes.{moved}
use Rattle.index_act.proofs.move_to.Goals as goal

pub returns : goal.returns
returns c = search (moved)
