-- Hands out a block of what the asked vector lacks.
use Rattle.sab_block.proofs.Calls.{asks_wrong, hands}
use Rattle.sab_block.proofs.hand_out.Goals as goal

pub returns-then-asked-ne16 : goal.returns-then-asked-ne16
returns-then-asked-ne16 c = search (asks_wrong)

pub returns : goal.returns
returns c = search (hands)
