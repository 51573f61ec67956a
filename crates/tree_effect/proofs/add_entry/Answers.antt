-- A make: a row for the new entry, its role, its folder's count and its label.
use Rattle.tree_effect.proofs.Effects.{entry_added, next_row_end, own_low, folder_low}
use native.Mathlib.Omega.{arith}
use borrow.Author.Rules.{rules}
use Rattle.tree_effect.proofs.add_entry.Goals as goal

pub slice_bounds-fill_row-end : goal.slice_bounds-fill_row-end
slice_bounds-fill_row-end c = search (next_row_end)

pub fill_row-requires : goal.fill_row-requires
fill_row-requires c = (search rules, search, search (own_low), search (folder_low))

pub returns : goal.returns
returns c = (search (entry_added), omega arith, search)
