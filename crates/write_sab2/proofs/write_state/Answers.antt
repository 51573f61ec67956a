-- Rows, then records, then zeros; the count of blocks is returned.
use mathlib.Core.Path.{◌≡◌}
use lib.ListN.{length}
use borrow.Author.Rules.{rules}
use Rattle.write_sab2.proofs.Whole.{state_whole, state_blocks}
use Rattle.write_sab2.proofs.write_state.Goals as goal

pub returns-clause-counted : goal.returns-clause-counted
returns-clause-counted c = search (state_blocks)

pub returns-clause-written : goal.returns-clause-written
returns-clause-written c =
    let long : length c.write_records-n.new.file ≡ 95232 = search rules in
    search (state_whole, long)
