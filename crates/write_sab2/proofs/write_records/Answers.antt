-- The blocks of the records are written behind the first blocks of the file; their count is returned.
use mathlib.Core.Path.{refl}
use Rattle.write_sab2.proofs.Placed.{run_none, run_all, records_more, records_begun, records_ends}
use borrow.Author.Rules.{rules}
use native.Mathlib.Omega.{arith}
use Rattle.write_sab2.proofs.write_records.Goals as goal

pub loop-k-init : goal.loop-k-init
loop-k-init c = (omega arith, refl, search rules, search (run_none))

pub run_block-b-requires : goal.run_block-b-requires
run_block-b-requires c = (search rules, search rules, search rules, search rules, search (records_begun), search rules)

pub loop-k-preserved : goal.loop-k-preserved
loop-k-preserved c = (
  search rules,
  search rules,
  search rules,
  records_more _ _ _ _ _ _ _ _ c.write_at.ensures c.run_block-b.ensures c.loop-k.invariant.3 c.requires.1 (search rules) (search rules),
)

pub returns-clause-counted : goal.returns-clause-counted
returns-clause-counted c = (search (records_ends), search rules)

pub returns-clause-written : goal.returns-clause-written
returns-clause-written c = search (run_all, rules)
