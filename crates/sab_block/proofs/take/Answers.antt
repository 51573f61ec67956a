-- Takes a block, wholly or not at all.
use Rattle.sab_block.proofs.Calls.{takes}
use Rattle.sab_block.proofs.take.Goals as goal

pub returns : goal.returns
returns c = search (takes)
