-- What the record at a position has seen.
use Rattle.log_closure.proofs.Closed.{row_flat}
use Rattle.log_closure.proofs.row_at.Goals as goal

pub returns : goal.returns
returns c = search (row_flat)
