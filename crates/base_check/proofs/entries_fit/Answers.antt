-- The rows of n entries.
use Rattle.base_check.proofs.Checks.{entries_start, entries_next}
use Rattle.base_check.proofs.entries_fit.Goals as goal

pub loop-i-init : goal.loop-i-init
loop-i-init c = search (entries_start)

pub loop-i-preserved : goal.loop-i-preserved
loop-i-preserved c = search (entries_next)
