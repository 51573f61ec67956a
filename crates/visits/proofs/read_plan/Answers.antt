-- The plan is on its way at the start, and after each block.
use Rattle.std.proofs.Common.{rules}
use Rattle.visits.proofs.Reading.{going_begun, going_next}
use Rattle.visits.proofs.read_plan.Goals as goal

pub loop-init : goal.loop-init
loop-init g c = search (going_begun)

pub feed-f-requires : goal.feed-f-requires
feed-f-requires g c = (search rules, search rules, search rules)

pub loop-preserved : goal.loop-preserved
loop-preserved g c = search (going_next)
