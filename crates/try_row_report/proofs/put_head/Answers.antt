-- The first 20 bytes of a report: how many blocks were taken, what stopped the row, how many entries are listed, and the
-- vector.
use Rattle.try_row_report.proofs.Listing.{head_put}
use Rattle.try_row_report.proofs.put_head.Goals as goal

pub returns : goal.returns
returns c = rw (← c.stop_number.ensures) (search (head_put))
