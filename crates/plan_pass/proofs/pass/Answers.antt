-- A pass.
use Rattle.plan_pass.proofs.Passing.{nothing_passes}
use Rattle.plan_pass.proofs.pass.Goals as goal

pub returns-then-has_all : goal.returns-then-has_all
returns-then-has_all c = search (nothing_passes)
