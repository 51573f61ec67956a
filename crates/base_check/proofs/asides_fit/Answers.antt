-- The rows of m asides.
use Rattle.base_check.proofs.Checks.{asides_start, asides_next}
use Rattle.base_check.proofs.asides_fit.Goals as goal

pub loop-i-init : goal.loop-i-init
loop-i-init c = search (asides_start)

pub loop-i-preserved : goal.loop-i-preserved
loop-i-preserved c = search (asides_next)
