-- Lists a folder; the count is that of its entries.
use Rattle.std.proofs.Common.{rules}
use Rattle.refusal.proofs.Refusals.{not_zero}
use Rattle.sab_index.proofs.Calls.{first_few, count_few, lent_wrong, list_refused, lists}
use Rattle.sab_index.proofs.list.Goals as goal

pub returns-then-lent-ne-RANGE_BYTES : goal.returns-then-lent-ne-RANGE_BYTES
returns-then-lent-ne-RANGE_BYTES c = search (lent_wrong)

pub tell-requires : goal.tell-requires
tell-requires c = (search rules, search (first_few, c.in-Ok.ensures), search (count_few, c.in-Ok.ensures))

pub returns-in-Ok : goal.returns-in-Ok
returns-in-Ok c = search (lists, c.in-Ok.ensures)

pub returns-in-Err : goal.returns-in-Err
returns-in-Err c = search (list_refused, not_zero, c.in-Err.ensures)
