-- How far row i is from the top; none if that is more than n, or never.
use Rattle.base_climb.proofs.Climbing.{climb_starts, climb_top, climb_known, climb_lost, climb_tells, climb_ends, climb_goes}
use Rattle.base_climb.proofs.depth_of.Goals as goal

pub loop-t-init : goal.loop-t-init
loop-t-init c = search (climb_starts)

pub returns-then-q-eq0-clause-away : goal.returns-then-q-eq0-clause-away
returns-then-q-eq0-clause-away c = search (climb_top)

pub returns-then-q-gt512-clause-away : goal.returns-then-q-gt512-clause-away
returns-then-q-gt512-clause-away c = search (climb_lost)

pub returns-then-d-gt0-clause-away : goal.returns-then-d-gt0-clause-away
returns-then-d-gt0-clause-away c = search (climb_tells, climb_known)

pub loop-t-preserved : goal.loop-t-preserved
loop-t-preserved c = search (climb_goes)

pub returns-clause-away : goal.returns-clause-away
returns-clause-away c = search (climb_ends)
