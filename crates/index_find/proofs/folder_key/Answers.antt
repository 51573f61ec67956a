-- A folder's identity as one number, by unit, then by number.
use Rattle.index_model.specs.Index.{folder_key}
use borrow.Author.Rules.{rules}
use Rattle.index_find.proofs.folder_key.Goals as goal

pub returns : goal.returns
unfolding folder_key
returns c = search rules
