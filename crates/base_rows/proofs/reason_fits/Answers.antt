-- Reason 12 to 18 or 25, state 1 or 2, then two zeros.
use Rattle.base_rows.proofs.Tests.{reason_is}
use Rattle.base_rows.proofs.reason_fits.Goals as goal

pub returns : goal.returns
returns c = search (reason_is)
