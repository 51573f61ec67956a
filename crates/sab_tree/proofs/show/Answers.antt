-- Shows the tree of a state.
use Rattle.sab_words.proofs.Told.{tells}
use Rattle.sab_tree.proofs.show.Goals as goal

pub returns : goal.returns
returns c = search (tells)
