-- Kind 1 or 2, then three zeros.
use Rattle.base_rows.proofs.Tests.{kind_is}
use Rattle.base_rows.proofs.kind_fits.Goals as goal

pub returns : goal.returns
returns c = search (kind_is)
