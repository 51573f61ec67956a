-- An SAB2 file without folded records as SAB1; the count is that of its blocks.
use Rattle.sab_convert.proofs.Turns.{turns}
use Rattle.sab_convert.proofs.to_sab1.Goals as goal

pub returns-in-Ok : goal.returns-in-Ok
returns-in-Ok c = search (turns, c.in-Ok.ensures)

pub returns-in-Err : goal.returns-in-Err
returns-in-Err c =
    let word = rw (c.number.ensures, c.place.ensures) at c.pack-in-Err.ensures in
    search (turns, c.in-Err.ensures, word)
