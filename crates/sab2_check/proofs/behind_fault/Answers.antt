-- The first fault of the records and the vector of a file of n blocks, whose blocks have none, and whose list and base stand.
use Rattle.sab2_check.proofs.Checks.{part_order, part_length, part_few, rows_inside_file, few_in_front, held-behind}
use borrow.Author.Rules.{rules}
use Rattle.sab2_check.proofs.behind_fault.Goals as goal

pub slice_bounds-held_fault-count-2 : goal.slice_bounds-held_fault-count-2
slice_bounds-held_fault-count-2 c = search (part_order)

pub slice_bounds-held_fault-start-2 : goal.slice_bounds-held_fault-start-2
slice_bounds-held_fault-start-2 c = search (part_order)

pub held_fault-requires : goal.held_fault-requires
held_fault-requires c = (search rules, search (part_length), search rules, search rules, search (rows_inside_file), search (few_in_front), search (part_few))

pub returns : goal.returns
returns c = search (held-behind)
