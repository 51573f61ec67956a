-- Hands out all blocks of what the asked vector lacks; the count is that of the blocks.
use Rattle.sab_row.proofs.Calls.{asks_wrong, hands, same_blocks}
use Rattle.sab_row.proofs.hand_out_row.Goals as goal

pub returns-then-asked-ne16 : goal.returns-then-asked-ne16
returns-then-asked-ne16 c = search (asks_wrong)

pub returns : goal.returns
returns c =
    let word = rw (same_blocks c.hand_out_row.result) at c.blocks_word.ensures in
    search (hands, word)
