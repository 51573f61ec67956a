-- The second unit has all that the first holds: its counts cover the first's.
use Rattle.plan_pass.proofs.Passing.{has_all}
use Rattle.plan_pass.proofs.has_all.Goals as goal

pub returns : goal.returns
returns c = search (has_all)
