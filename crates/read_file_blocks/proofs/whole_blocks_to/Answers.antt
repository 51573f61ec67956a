-- The file has whole blocks, at least one and at most so many.
use Rattle.read_file_blocks.proofs.Agreement.{ragged, no_block, some_blocks}
use Rattle.read_file_blocks.proofs.whole_blocks_to.Goals as goal

pub returns-then-file-ne0 : goal.returns-then-file-ne0
returns-then-file-ne0 c = search (ragged)

pub returns-then-n-lt1 : goal.returns-then-n-lt1
returns-then-n-lt1 c = search (no_block)

pub returns : goal.returns
returns c = search (some_blocks)
