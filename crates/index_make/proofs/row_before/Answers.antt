-- Row i of a table comes before a label in the folder of a key.
use Rattle.index_make.proofs.Ordering.{row_key}
use Rattle.index_make.proofs.row_before.Goals as goal

pub returns : goal.returns
returns c = search (row_key)
