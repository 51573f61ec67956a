-- The row of an aside.
use Rattle.base_rows.proofs.Tests.{aside_is}
use Rattle.base_rows.proofs.aside_fits.Goals as goal

pub returns : goal.returns
returns c = search (aside_is)
