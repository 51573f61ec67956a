-- The base vector with the first n records counted.
use Rattle.fold_log.proofs.Counts.{counts_start, counts-unit, counts-next, counts_end, counts_few}
use native.Mathlib.Omega.{arith}
use borrow.Author.Rules.{rules}
use Rattle.fold_log.proofs.counted.Goals as goal

pub loop-i-init : goal.loop-i-init
loop-i-init c = (search (counts_few), search (counts_start, rules))

pub count_to-v-requires : goal.count_to-v-requires
count_to-v-requires c = (search rules, search (counts-unit))

pub loop-i-preserved : goal.loop-i-preserved
loop-i-preserved c = (omega arith, search (counts-next))

pub returns : goal.returns
returns c = search (counts_end)
