-- The blocks of a plan that passed its checks, one after another, from empty logs on.
use Prim.Native.Nat.{◌-◌}
use mathlib.Core.Path.{refl}
use Rattle.plan_try.proofs.Running.{few_skipped, block_inside, block_long, block_passes, units_on, skipped_on, goes_on_lem, starts, units_start, ends}
use borrow.Author.Rules.{rules}
use native.Mathlib.Omega.{arith}
use Rattle.plan_try.proofs.run_blocks.Goals as goal

pub loop-k-init : goal.loop-k-init
loop-k-init c = (search (units_start), omega arith, search (starts))

pub slice_bounds-block-end : goal.slice_bounds-block-end
slice_bounds-block-end c = search (block_inside)

pub block-t-requires : goal.block-t-requires
block-t-requires c = (search rules, search rules, search (block_long), search (block_passes), search rules, search (few_skipped))

pub loop-k-preserved : goal.loop-k-preserved
loop-k-preserved c = (search (units_on), search (skipped_on), search (goes_on_lem))

pub returns-clause-happened : goal.returns-clause-happened
returns-clause-happened c = search (ends)
