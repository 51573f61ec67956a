-- Writes the whole log as a file; the count is that of its blocks.
use Rattle.sab_file.proofs.Calls.{writes, same_blocks}
use Rattle.sab_file.proofs.write_file.Goals as goal

pub returns : goal.returns
returns c =
    let word = rw (same_blocks c.write_file.result) at c.blocks_word.ensures in
    search (writes, word)
