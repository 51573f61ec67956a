-- The entries by rank of their makers, then the asides by rank.
use Rattle.line_tree.proofs.Turns.{entries_fit, asides_fit, wrote_tree}
use native.Mathlib.Omega.{arith}
use borrow.Author.Rules.{rules}
use Rattle.line_tree.proofs.tree_lines.Goals as goal

pub entry_lines-m-requires : goal.entry_lines-m-requires
entry_lines-m-requires c = (search rules, omega arith, search (entries_fit))

pub aside_lines-requires : goal.aside_lines-requires
aside_lines-requires c = (search rules, omega arith, search (asides_fit))

pub returns : goal.returns
returns c = search (wrote_tree)
