-- A real date.
use Rattle.base_rows.proofs.Tests.{date_is}
use Rattle.base_rows.proofs.date_fits.Goals as goal

pub returns : goal.returns
returns c = search (date_is)
