-- A row may have n bytes: 0 to 86 whole blocks.
use Rattle.take_row.proofs.Begun.{part_block, whole_blocks}
use Rattle.take_row.proofs.row_fits.Goals as goal

pub returns-then-n-ne0 : goal.returns-then-n-ne0
returns-then-n-ne0 c = search (part_block)

pub returns : goal.returns
returns c = search (whole_blocks)
