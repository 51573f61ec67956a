-- One unit hands out to the true vector of another, which takes the block.
use Rattle.plan_pass.proofs.Passing.{passes}
use Rattle.plan_pass.proofs.pass_block.Goals as goal

pub returns : goal.returns
returns c = search (passes)
