-- The entry in row i.
use Rattle.index_model.specs.Index.{entry_at}
use borrow.Author.Rules.{rules}
use Rattle.index_find.proofs.entry_at.Goals as goal

pub returns : goal.returns
unfolding entry_at
returns c = search rules
