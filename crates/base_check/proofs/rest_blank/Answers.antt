-- The rows behind n entries and m asides are zero.
use Rattle.base_check.proofs.Checks.{rest_is}
use Rattle.base_check.proofs.rest_blank.Goals as goal

pub returns : goal.returns
returns c = search (rest_is)
