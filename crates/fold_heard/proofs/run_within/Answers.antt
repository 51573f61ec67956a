-- How many records from the first on a vector counts.
use Rattle.fold_heard.proofs.Lowest.{run_starts, run_stops, run_goes_on, run_ends}
use Rattle.fold_heard.proofs.Records.{unit_lent, few_used}
use native.Mathlib.Omega.{arith}
use borrow.Author.Rules.{rules}
use Rattle.fold_heard.proofs.run_within.Goals as goal

pub loop-i-init : goal.loop-i-init
loop-i-init c = (search (few_used), search (run_starts))

pub counts-requires : goal.counts-requires
counts-requires c = (search rules, search (unit_lent))

pub returns-then-not-counts : goal.returns-then-not-counts
returns-then-not-counts c = (search (run_stops), omega arith)

pub loop-i-preserved : goal.loop-i-preserved
loop-i-preserved c = (omega arith, search (run_goes_on))

pub returns : goal.returns
returns c = (search (run_ends), omega arith)
