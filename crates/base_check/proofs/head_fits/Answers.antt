-- The zeros of the head, and the two counts.
use Rattle.base_check.proofs.Checks.{head_is}
use Rattle.base_check.proofs.head_fits.Goals as goal

pub returns : goal.returns
returns c = search (head_is)
