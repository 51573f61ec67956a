-- The log is copied.
use Rattle.try_row.proofs.Tried.{copies}
use Rattle.try_row.proofs.copy_log.Goals as goal

pub returns : goal.returns
returns c = search (copies)
