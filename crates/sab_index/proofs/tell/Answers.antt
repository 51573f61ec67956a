-- The first row of a folder and how many it has are told: the count in the word, both in the lent bytes.
use Rattle.sab_index.proofs.Calls.{tells_range}
use Rattle.sab_index.proofs.tell.Goals as goal

pub returns : goal.returns
returns c = search (tells_range)
