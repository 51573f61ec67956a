-- A rename: place record and label of the object's row.
use Rattle.tree_amend.proofs.Registers.{within_row, rename_leaves, rename_register}
use Rattle.tree_judge.proofs.Reasons.{object_range}
use Rattle.tree_amend.proofs.Amending.{unchanged, rename_done, rename_nodes, row_end}
use Rattle.tree_lookup.proofs.Working.{works_long}
use Rattle.model.specs.Record.{label_of}
use Rattle.model.specs.Bytes.{part}
use native.Mathlib.Omega.{arith}
use borrow.Author.Rules.{rules}
use Rattle.tree_amend.proofs.rename.Goals as goal

pub entry_of-requires : goal.entry_of-requires
entry_of-requires c = (search, search (object_range))

pub returns-in_default : goal.returns-in_default
returns-in_default c = (search (unchanged, c.in_default.ensures.shows, rules), omega arith, search (rename_leaves, c.in_default.ensures.row, c.in_default.ensures.shows, rules))

pub inside_at-requires : goal.inside_at-requires
inside_at-requires c = (search (works_long), omega (arith, c.in-Some.ensures.within))

pub slice_bounds-relabel-end : goal.slice_bounds-relabel-end
slice_bounds-relabel-end c = search (rules, within_row, c.in-Some.ensures.within)

pub slice_bounds-rename_row-end : goal.slice_bounds-rename_row-end
slice_bounds-rename_row-end c = search (row_end, c.in-Some.ensures.within)

pub returns : goal.returns
unfolding label_of part
returns c = (
  rename_done _ _ _ _ c.requires.1 _ c.requires.0 _ _ c.object_of.ensures c.in-Some.ensures.shows _ _ _ c.in-Some.ensures.within c.requires.2 c.inside_at.ensures c.relabel.ensures _ c.rename_row.ensures,
  search (rename_nodes, c.in-Some.ensures.shows),
  rename_register _ _ _ _ _ _ _ c.object_of.ensures c.in-Some.ensures.row c.in-Some.ensures.shows c.in-Some.ensures.within _ c.inside_at.ensures _ c.relabel.ensures,
)
