-- The list names the unit.
use Rattle.base_head.proofs.Listed.{listed_is}
use Rattle.base_head.proofs.is_listed.Goals as goal

pub returns : goal.returns
returns c = search (listed_is)
