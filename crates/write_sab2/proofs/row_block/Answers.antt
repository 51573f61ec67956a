-- Block k of the rows of a base.
use Rattle.write_sab2.proofs.Placed.{rows_block, rows_short}
use Rattle.write_sab2.proofs.row_block.Goals as goal

pub block_as-requires : goal.block_as-requires
block_as-requires c = search (rows_short)

pub returns : goal.returns
returns c = search (rows_block)
