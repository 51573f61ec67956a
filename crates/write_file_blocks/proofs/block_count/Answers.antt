-- How many blocks hold n records: six records a block, and one block for none.
use Rattle.model.specs.File.{block_count}
use borrow.Author.Rules.{rules}
use Rattle.write_file_blocks.proofs.block_count.Goals as goal

pub returns-then-n-eq0 : goal.returns-then-n-eq0
unfolding block_count
returns-then-n-eq0 c = search rules

pub returns : goal.returns
unfolding block_count
returns c = search rules
