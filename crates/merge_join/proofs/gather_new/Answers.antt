-- The records of the second file that a vector lacks are laid one behind another; their count is returned.
use mathlib.Core.Path.{refl}
use Rattle.model.specs.Bytes.{joined}
use Rattle.model.specs.Log.{lacking}
use Rattle.log_check.specs.InOrder.{listed}
use Rattle.log_check.proofs.Scans.{laid_inside}
use Rattle.merge_check.proofs.Loops.{lent_unit}
use Rattle.merge_join.proofs.Gathered.{gathers_none, skips_count, skips_long, skips_laid, adds_count, adds_long, adds_laid, gathered_count, gathered_laid}
use borrow.Author.Rules.{rules}
use native.Mathlib.Omega.{arith}
use Rattle.merge_join.proofs.gather_new.Goals as goal

pub loop-i-init : goal.loop-i-init
unfolding lacking listed joined
loop-i-init c = (omega arith, search rules, search rules, refl, refl, search (gathers_none))

pub slice_bounds-lacks-end : goal.slice_bounds-lacks-end
slice_bounds-lacks-end c = search (laid_inside)

pub lacks-requires : goal.lacks-requires
lacks-requires c = (search rules, search (lent_unit))

pub loop-i-preserved-then-not-lacks : goal.loop-i-preserved-then-not-lacks
loop-i-preserved-then-not-lacks c = (omega arith, search rules, search rules, search (skips_count), search (skips_long), search (skips_laid))

pub slice_bounds-put-end : goal.slice_bounds-put-end
slice_bounds-put-end c = search (laid_inside)

pub loop-i-preserved : goal.loop-i-preserved
loop-i-preserved c = (omega arith, search rules, search rules, search (adds_count), search (adds_long), search (adds_laid))

pub returns-clause-counted : goal.returns-clause-counted
returns-clause-counted c = (search (gathered_count, rules), omega arith)

pub returns-clause-laid : goal.returns-clause-laid
returns-clause-laid c = search (gathered_laid, rules)
