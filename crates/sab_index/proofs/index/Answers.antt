-- Makes the index of a log and its base afresh.
use Rattle.sab_words.proofs.Told.{tells_work}
use Rattle.sab_index.proofs.index.Goals as goal

pub returns : goal.returns
returns c = search (tells_work)
