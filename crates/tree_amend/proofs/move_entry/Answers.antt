-- A move: folder, label and place record of the object's row.
use Rattle.tree_amend.proofs.Amending.{unchanged, moved_object, moved_folder, row_present, move_done, move_nodes, row_end}
use Rattle.tree_amend.proofs.Registers.{move_leaves, move_register}
use native.Mathlib.Omega.{arith}
use borrow.Author.Rules.{rules}
use Rattle.tree_amend.proofs.move_entry.Goals as goal

pub entry_of-requires : goal.entry_of-requires
entry_of-requires c = (search, search (moved_object))

pub returns-in_default : goal.returns-in_default
returns-in_default c = (search (unchanged, c.in_default.ensures.shows, rules), omega arith, search (move_leaves, c.in_default.ensures.row, c.in_default.ensures.shows, rules))

pub shift_entry-requires : goal.shift_entry-requires
shift_entry-requires c = (search, search, search, c.in-Some.ensures.within, search (row_present, c.in-Some.ensures.shows, c.in-Some.ensures.within))

pub slice_bounds-move_row-end : goal.slice_bounds-move_row-end
slice_bounds-move_row-end c = search (row_end, c.in-Some.ensures.within)

pub move_row-requires : goal.move_row-requires
move_row-requires c = (search rules, search rules, search rules, search (moved_folder))

pub returns : goal.returns
returns c = (search (move_done, c.in-Some.ensures.shows, c.in-Some.ensures.within), search (move_nodes, c.in-Some.ensures.shows), search (move_register, c.in-Some.ensures.row, c.in-Some.ensures.shows, c.in-Some.ensures.within))
