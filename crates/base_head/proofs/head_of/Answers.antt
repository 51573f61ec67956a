-- The head of a base.
use Rattle.base_head.proofs.Listed.{head_is}
use Rattle.base_head.proofs.head_of.Goals as goal

pub returns : goal.returns
returns c = search (head_is)
