-- The list names each unit that the vector counts records of.
use Rattle.base_head.proofs.Listed.{units_start, units_next, units_end}
use Rattle.base_head.proofs.lists_all.Goals as goal

pub loop-u-init : goal.loop-u-init
loop-u-init c = search (units_start)

pub loop-u-preserved : goal.loop-u-preserved
loop-u-preserved c = search (units_next)

pub returns : goal.returns
returns c = search (units_end)
