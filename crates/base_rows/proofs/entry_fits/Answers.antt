-- The row of an entry.
use Rattle.base_rows.proofs.Tests.{entry_is}
use Rattle.base_rows.proofs.entry_fits.Goals as goal

pub returns : goal.returns
returns c = search (entry_is)
