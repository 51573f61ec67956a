-- Tries a row on a copy of the log.
use Rattle.sab_row.proofs.Calls.{tries}
use Rattle.sab_row.proofs.try_row.Goals as goal

pub returns : goal.returns
returns c = search (tries)
