-- The n rows of a base from row i on, zeros behind them.
use Rattle.model.specs.Vector.{blocks_for}
use Rattle.sab2_model.specs.Rows.{row_count}
use Rattle.sab2_rows.proofs.Gathered.{none_gathered, one_gathered, all_gathered}
use borrow.Author.Rules.{rules}
use native.Mathlib.Omega.{arith}
use Rattle.sab2_rows.proofs.gather_rows.Goals as goal

pub loop-j-init : goal.loop-j-init
loop-j-init c = (search rules, search (none_gathered))

pub overflow_add-i : goal.overflow_add-i
unfolding row_count blocks_for
overflow_add-i c = omega arith

pub loop-j-preserved : goal.loop-j-preserved
loop-j-preserved c = (search rules, search (one_gathered))

pub returns : goal.returns
returns c = search (all_gathered)
