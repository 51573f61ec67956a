-- The report: how many blocks were taken, what stopped the row, how many entries are listed, the vector, and the list of the
-- disputed entries that are not among the first `count` noted.
use Rattle.try_row_report.proofs.Listing.{reports}
use Rattle.try_row_report.proofs.write_report.Goals as goal

pub returns : goal.returns
returns c = search (reports)
