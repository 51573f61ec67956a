-- The first records that a vector lacks, at most so many, are laid one behind another; their count is returned.
use Rattle.hand_out_pick.proofs.Gathered.{gathered, unit_lent, starts_long, starts_few, starts_laid, skips_count, skips_laid, adds_count, adds_laid, full_count, full_laid, ends_count, ends_laid}
use Rattle.model.specs.Log.{lacking}
use mathlib.Core.Path.{refl}
use borrow.Author.Rules.{rules}
use native.Mathlib.Omega.{arith}
use Rattle.hand_out_pick.proofs.gather_most.Goals as goal

pub loop-i-init : goal.loop-i-init
unfolding gathered lacking
loop-i-init c = (search (starts_few), omega arith, search (starts_long), refl, search (starts_laid))

pub returns-then-n-most-clause-counted : goal.returns-then-n-most-clause-counted
returns-then-n-most-clause-counted c = (search (full_count), omega arith)

pub returns-then-n-most-clause-laid : goal.returns-then-n-most-clause-laid
returns-then-n-most-clause-laid c = search (full_laid)

pub lacks-requires : goal.lacks-requires
lacks-requires c = (search rules, search (unit_lent))

pub loop-i-preserved-then-not-lacks : goal.loop-i-preserved-then-not-lacks
loop-i-preserved-then-not-lacks c = (omega arith, omega arith, omega arith, search (skips_count), search (skips_laid))

pub loop-i-preserved : goal.loop-i-preserved
loop-i-preserved c = (omega arith, omega arith, omega arith, search (adds_count), search (adds_laid))

pub returns-clause-counted : goal.returns-clause-counted
returns-clause-counted c = (search (ends_count), omega arith)

pub returns-clause-laid : goal.returns-clause-laid
returns-clause-laid c = search (ends_laid)
