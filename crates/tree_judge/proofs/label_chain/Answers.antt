-- The chain of a record's label in its folder.
use Rattle.model.specs.Record.{label_of}
use Rattle.model.specs.Bytes.{part}
use borrow.Author.Rules.{rules}
use Rattle.tree_judge.proofs.label_chain.Goals as goal

pub returns : goal.returns
unfolding label_of part
returns c = (cc, search rules)
