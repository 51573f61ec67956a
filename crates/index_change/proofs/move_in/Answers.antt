-- An entry is put under another folder and label.
use Rattle.index_change.proofs.Changes.{moved_in_lem}
use Rattle.index_change.proofs.move_in.Goals as goal

pub returns : goal.returns
returns c = search (moved_in_lem)
