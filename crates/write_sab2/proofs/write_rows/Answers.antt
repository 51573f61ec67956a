-- The blocks of the rows are written from the beginning of the file on; their count is returned.
use Rattle.write_sab2.proofs.Placed.{run_none, run_all, rows_more, rows_few, rows_begun, rows_blocks}
use borrow.Author.Rules.{rules}
use Rattle.write_sab2.proofs.write_rows.Goals as goal

pub loop-k-init : goal.loop-k-init
loop-k-init c = (search (rows_few), search (rows_blocks), search rules, search (run_none))

pub row_block-b-requires : goal.row_block-b-requires
row_block-b-requires c = (search rules, search rules, search rules, search rules, search rules, search (rows_begun))

pub loop-k-preserved : goal.loop-k-preserved
loop-k-preserved c = (
  search rules,
  search rules,
  search rules,
  rows_more _ _ _ _ _ _ c.write_at.ensures c.row_block-b.ensures c.loop-k.invariant.3 (search rules) (search rules),
)

pub returns-clause-counted : goal.returns-clause-counted
returns-clause-counted c = (search rules, search rules)

pub returns-clause-written : goal.returns-clause-written
returns-clause-written c = search (run_all, rules)
