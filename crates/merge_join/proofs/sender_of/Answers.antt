-- The unit of a file.
use Rattle.model.specs.File.{block_at}
use Rattle.model.specs.Bytes.{part}
use borrow.Author.Rules.{rules}
use Rattle.merge_join.proofs.sender_of.Goals as goal

pub returns : goal.returns
unfolding block_at part
returns c = search rules
