-- The entry in row i is disputed and was not noted.
use Rattle.try_row_report.proofs.Listing.{not_new, new_by_notes}
use Rattle.try_row_report.proofs.is_new.Goals as goal

pub returns-then-not-is_disputed : goal.returns-then-not-is_disputed
returns-then-not-is_disputed c = search (not_new)

pub returns : goal.returns
returns c = search (new_by_notes)
