-- Row i is k steps from the top: this is kept of it and of the rows on its way, up to one of which it is known.
use Rattle.base_climb.proofs.Climbing.{known_more, row_some, row_low, row_exact}
use native.Mathlib.Omega.{arith}
use Rattle.base_climb.proofs.mark.Goals as goal

pub overflow_sub-row : goal.overflow_sub-row
overflow_sub-row c = search (row_some)

pub loop-depths-preserved : goal.loop-depths-preserved
loop-depths-preserved c = (search (row_low), omega arith, search (known_more), search (row_exact))
