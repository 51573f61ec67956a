-- Takes the blocks of a row in turn; the count is that of the blocks taken, with what stopped the row in its upper half.
use Rattle.sab_row.proofs.Calls.{takes}
use Rattle.sab_row.proofs.take_row.Goals as goal

pub returns-in-Ok : goal.returns-in-Ok
returns-in-Ok c = search (takes, c.in-Ok.ensures)

pub returns-in-Err : goal.returns-in-Err
returns-in-Err c = search (takes, c.in-Err.ensures)
