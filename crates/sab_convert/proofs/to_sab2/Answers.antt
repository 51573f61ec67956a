-- An SAB1 file as SAB2; the count is that of its blocks.
use Rattle.sab_convert.proofs.Turns.{turns}
use Rattle.sab_convert.proofs.to_sab2.Goals as goal

pub returns-in-Ok : goal.returns-in-Ok
returns-in-Ok c = search (turns, c.in-Ok.ensures)

pub returns-in-Err : goal.returns-in-Err
returns-in-Err c =
    let word = rw (c.from-in-Err.ensures) at c.pack-in-Err.ensures in
    search (turns, c.in-Err.ensures, word)
