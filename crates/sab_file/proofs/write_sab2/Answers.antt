-- Writes list, base and log as an SAB2 file; the count is that of its blocks.
use Rattle.sab_file.proofs.Calls.{writes_sab2, same_blocks}
use Rattle.sab_file.proofs.write_sab2.Goals as goal

pub returns : goal.returns
returns c =
    let word = rw (same_blocks c.write_sab2.result) at c.blocks_word.ensures in
    search (writes_sab2, word)
