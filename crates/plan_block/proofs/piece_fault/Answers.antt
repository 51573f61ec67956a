-- The k-th block of a plan, counted from 0: 2 if it is a part of one, or one too many; else what holds of the block.
use Rattle.plan_block.proofs.Blocks.{too_many, part_block, block_decides}
use Rattle.plan_block.proofs.piece_fault.Goals as goal

pub returns-then-k-ge-PLAN_BLOCKS : goal.returns-then-k-ge-PLAN_BLOCKS
returns-then-k-ge-PLAN_BLOCKS c = search (too_many)

pub returns-then-b-ne-BLOCK_BYTES : goal.returns-then-b-ne-BLOCK_BYTES
returns-then-b-ne-BLOCK_BYTES c = search (part_block)

pub returns : goal.returns
returns c = search (block_decides)
