-- Block k of the n records that the asked vector lacks, which lie one behind another in the row, from byte 3,072 on; those of
-- the blocks before may be written over.
use Rattle.hand_out_row.proofs.Written.{block_is}
use Rattle.hand_out_row.proofs.row_block.Goals as goal

pub returns : goal.returns
returns c = search (block_is)
