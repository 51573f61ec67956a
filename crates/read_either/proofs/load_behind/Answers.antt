-- The log of an SAB2 file without a fault.
use Rattle.sab2_check.proofs.Behind.{first_block, front, part_order, few_left, behind-length, behind_few, behind_fits}
use Rattle.read_either.proofs.Forms.{behind-loaded, first_lent}
use borrow.Author.Rules.{rules}
use Rattle.read_either.proofs.load_behind.Goals as goal

pub row_blocks-p-requires : goal.row_blocks-p-requires
row_blocks-p-requires c = search (first_block)

pub slice_bounds-load-end : goal.slice_bounds-load-end
slice_bounds-load-end c = search (first_block)

pub slice_bounds-load-count-2 : goal.slice_bounds-load-count-2
slice_bounds-load-count-2 c = search (part_order)

pub slice_bounds-load-start-2 : goal.slice_bounds-load-start-2
slice_bounds-load-start-2 c = search (part_order)

pub overflow_sub-n : goal.overflow_sub-n
overflow_sub-n c = search (front)

pub load-requires : goal.load-requires
load-requires c = (search rules, search (first_lent), search (behind-length), search (few_left), search (behind_few), search (behind_fits))

pub returns : goal.returns
returns c = search (behind-loaded)
