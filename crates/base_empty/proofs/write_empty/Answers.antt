-- The lent base becomes empty, whatever stood in it.
use borrow.Author.Rules.{rules}
use Rattle.base_empty.proofs.Emptied.{emptied}
use Rattle.base_empty.proofs.write_empty.Goals as goal

pub returns : goal.returns
returns c = emptied _ _ c.requires (search rules)
