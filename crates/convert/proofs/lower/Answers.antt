-- An SAB2 file without a fault and without folded records becomes an SAB1 file; the count of its blocks is returned.
use Rattle.sab2_check.proofs.Behind.{first_block, front, part_order, few_left, behind-length}
use Rattle.convert.proofs.Lowered.{lowered_few, lowered_inside, lowered_room, lowered_many, lowered_fits, lowered_blocks, lowered}
use borrow.Author.Rules.{rules}
use Rattle.convert.proofs.lower.Goals as goal

pub slice_bounds-archive_in-end : goal.slice_bounds-archive_in-end
slice_bounds-archive_in-end c = search (first_block)

pub slice_bounds-sender_in-end : goal.slice_bounds-sender_in-end
slice_bounds-sender_in-end c = search (first_block)

pub slice_bounds-vector_in-end : goal.slice_bounds-vector_in-end
slice_bounds-vector_in-end c = search (first_block)

pub row_blocks-p-requires : goal.row_blocks-p-requires
row_blocks-p-requires c = search (first_block)

pub slice_bounds-records_counted-count : goal.slice_bounds-records_counted-count
slice_bounds-records_counted-count c = search (part_order)

pub slice_bounds-records_counted-start : goal.slice_bounds-records_counted-start
slice_bounds-records_counted-start c = search (part_order)

pub overflow_sub-m : goal.overflow_sub-m
overflow_sub-m c = search (front)

pub records_counted-total-requires : goal.records_counted-total-requires
records_counted-total-requires c = (search (behind-length), search (few_left))

pub block_count-n-requires : goal.block_count-n-requires
block_count-n-requires c = search (lowered_few)

pub slice_bounds-recast-count : goal.slice_bounds-recast-count
slice_bounds-recast-count c = search (part_order)

pub slice_bounds-recast-start : goal.slice_bounds-recast-start
slice_bounds-recast-start c = search (part_order)

pub recast-requires : goal.recast-requires
recast-requires c = (search rules, search (lowered_few), search (lowered_inside), search rules, search rules, search rules, search (lowered_room))

pub clear_behind-requires : goal.clear_behind-requires
clear_behind-requires c = (search rules, search (lowered_many))

pub overflow_cast-result : goal.overflow_cast-result
overflow_cast-result c = search (lowered_fits)

pub returns-clause-counted : goal.returns-clause-counted
returns-clause-counted c = search (lowered_blocks)

pub returns-clause-written : goal.returns-clause-written
returns-clause-written c = search (lowered)
