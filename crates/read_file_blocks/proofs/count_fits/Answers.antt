-- A block of records before the last is full; a count of 0 stands only in an only block.
use Rattle.read_file_blocks.proofs.Agreement.{before_last, only_block, last_of_more}
use Rattle.read_file_blocks.proofs.count_fits.Goals as goal

pub returns-then-k-n : goal.returns-then-k-n
returns-then-k-n c = search (before_last)

pub returns-then-n-eq1 : goal.returns-then-n-eq1
returns-then-n-eq1 c = search (only_block)

pub returns : goal.returns
returns c = search (last_of_more)
