-- All records that a vector lacks are laid one behind another; their count is returned.
use Rattle.hand_out_pick.proofs.Gathered.{whole-count, whole_laid}
use native.Mathlib.Omega.{arith}
use Rattle.hand_out_pick.proofs.gather_all.Goals as goal

pub returns-clause-counted : goal.returns-clause-counted
returns-clause-counted c = (whole-count _ _ c.gather_most.ensures.counted.0, omega arith)

pub returns-clause-laid : goal.returns-clause-laid
returns-clause-laid c = whole_laid _ _ _ c.gather_most.ensures.laid
