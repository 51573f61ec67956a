-- Reads a file of either form into a lent log and base; the count is that of the records of the log.
use Rattle.sab_file.proofs.Calls.{head_wrong, fault_number, loads_not, loads}
use Rattle.sab_file.proofs.read_file.Goals as goal

pub returns-then-head-ne24 : goal.returns-then-head-ne24
returns-then-head-ne24 c = search (head_wrong)

pub returns-in-Ok : goal.returns-in-Ok
returns-in-Ok c = search (loads, c.in-Ok.ensures)

pub returns-in-Err : goal.returns-in-Err
returns-in-Err c =
    let word = rw (c.number.ensures, c.place.ensures) at c.pack-in-Err.ensures in
    search (loads_not, fault_number, c.in-Err.ensures, word)
