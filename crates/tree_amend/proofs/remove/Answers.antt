-- A remove: the object's row stays, with kind 0.
use Rattle.tree_amend.proofs.Registers.{remove_leaves, remove_register}
use Rattle.tree_judge.proofs.Reasons.{object_range}
use Rattle.tree_amend.proofs.Amending.{unchanged, remove_done, remove_nodes, leave_counts, row_present, row_end, label_end, works_chains, works_wide}
use Rattle.tree_lookup.proofs.Working.{works_long}
use native.Mathlib.Omega.{arith}
use borrow.Author.Rules.{rules}
use Rattle.tree_amend.proofs.remove.Goals as goal

pub entry_of-requires : goal.entry_of-requires
entry_of-requires c = (search, search (object_range))

pub returns-in_default : goal.returns-in_default
returns-in_default c = (search (unchanged, c.in_default.ensures.shows, rules), omega arith, search (remove_leaves, c.in_default.ensures.row, c.in_default.ensures.shows, rules))

pub inside_at-f-requires : goal.inside_at-f-requires
inside_at-f-requires c = (search (works_long), omega (arith, c.in-Some.ensures.within))

pub slice_bounds-leave-end : goal.slice_bounds-leave-end
slice_bounds-leave-end c = search (label_end, c.in-Some.ensures.within)

pub leave-requires : goal.leave-requires
leave-requires c = (search (works_chains), search (works_wide), omega arith, search (leave_counts, row_present, c.in-Some.ensures.shows, c.in-Some.ensures.within), search rules)

pub slice_bounds-remove_row-end : goal.slice_bounds-remove_row-end
slice_bounds-remove_row-end c = search (row_end, c.in-Some.ensures.within)

pub returns : goal.returns
returns c = (
  remove_done _ _ _ _ c.requires.1 _ c.requires.0 _ _ c.object_of.ensures c.in-Some.ensures.shows _ _ _ c.in-Some.ensures.within c.inside_at-f.ensures _ c.place_of-from.ensures.0 c.place_of-from.ensures.1 c.leave.ensures _ c.remove_row.ensures,
  search (remove_nodes, c.in-Some.ensures.shows),
  remove_register _ _ _ _ _ _ _ c.object_of.ensures c.in-Some.ensures.row c.in-Some.ensures.shows c.in-Some.ensures.within _ c.inside_at-f.ensures _ _ c.place_of-from.ensures.0 c.leave.ensures,
)
