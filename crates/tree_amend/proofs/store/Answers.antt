-- A store: contents record, date and mark of the object's row.
use Rattle.std.proofs.Common.{rules}
use Rattle.tree_judge.proofs.Reasons.{object_range}
use Rattle.tree_amend.proofs.Amending.{unchanged, store_done, row_end}
use Rattle.tree_amend.proofs.store.Goals as goal

pub entry_of-requires : goal.entry_of-requires
entry_of-requires c = (search, search (object_range))

pub returns-in_default : goal.returns-in_default
returns-in_default c = search (unchanged, c.in_default.ensures.shows, rules)

pub slice_bounds-store_row-end : goal.slice_bounds-store_row-end
slice_bounds-store_row-end c = search (row_end, c.in-Some.ensures.within)

pub returns : goal.returns
returns c = search (store_done, c.in-Some.ensures.shows, c.in-Some.ensures.within)
