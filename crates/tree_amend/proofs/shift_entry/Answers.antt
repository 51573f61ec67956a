-- The entry in a row leaves its folder for the one that a move names, by the register.
use Rattle.model.specs.Record.{label_of}
use Rattle.model.specs.Bytes.{part}
use Rattle.tree_lookup.proofs.Working.{works_long}
use Rattle.tree_amend.proofs.Amending.{leave_counts, shift_counts, label_end, works_chains, works_wide}
use Rattle.tree_amend.proofs.Registers.{shift_register}
use native.Mathlib.Omega.{arith}
use borrow.Author.Rules.{rules}
use Rattle.tree_amend.proofs.shift_entry.Goals as goal

pub inside_at-f-requires : goal.inside_at-f-requires
inside_at-f-requires c = (search (works_long), omega arith)

pub slice_bounds-shift-end : goal.slice_bounds-shift-end
slice_bounds-shift-end c = search (label_end)

pub shift-requires : goal.shift-requires
shift-requires c = (search (works_chains), search (works_wide), omega arith, search (leave_counts), omega arith, search (shift_counts), search, search rules, search rules, omega arith)

pub returns : goal.returns
unfolding label_of part
returns c = search (shift_register)
