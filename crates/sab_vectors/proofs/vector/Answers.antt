-- Gives the held vector; the count is that of the records of the log.
use Rattle.sab_words.proofs.Told.{tells_blocks}
use Rattle.sab_vectors.proofs.vector.Goals as goal

pub returns : goal.returns
returns c = search (tells_blocks)
