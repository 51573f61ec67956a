-- The labels of all entries.
use mathlib.Core.Path.{refl}
use Rattle.base_load.proofs.Entering.{loaded, loaded_nodes}
use borrow.Author.Rules.{rules}
use Rattle.base_load.proofs.enter_labels.Goals as goal

pub returns : goal.returns
returns c = (search (loaded), search (loaded_nodes))
