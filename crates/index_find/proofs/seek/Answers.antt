-- The first of n rows that does not come before a label in the folder of a key, by halving.
use borrow.Author.Rules.{rules}
use Rattle.index_model.specs.Index.{row_before}
use Rattle.index_find.proofs.seek.Goals as goal

pub returns : goal.returns
returns c = (c.halve.ensures.halved (row_before c.args.index.now c.args.key c.args.label.now) (λ i t h e. search rules), c.halve.ensures.within)
