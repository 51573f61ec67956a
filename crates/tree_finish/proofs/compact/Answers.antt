-- The rows of present entries move to the front.
use native.Mathlib.Omega.{arith}
use mathlib.Core.Path.{refl}
use borrow.Author.Rules.{rules}
use Rattle.tree_finish.specs.Finishing.{present_to}
use Rattle.tree_finish.proofs.Compaction.{row_below, compact_rows, compact_count, compact_starts, compact_ends}
use Rattle.tree_finish.proofs.compact.Goals as goal

pub loop-i-init : goal.loop-i-init
unfolding present_to
loop-i-init c = (refl, search (compact_starts), refl)

pub keep_row-j-requires : goal.keep_row-j-requires
keep_row-j-requires c = (omega arith, omega arith, search (row_below))

pub loop-i-preserved : goal.loop-i-preserved
loop-i-preserved c = (search rules, search (compact_rows), search (compact_count))

pub returns : goal.returns
returns c = search (compact_ends)
