-- Row i comes before a label in the folder of a key.
use Rattle.index_find.proofs.Rows.{row_key}
use Rattle.index_find.proofs.row_before.Goals as goal

pub returns : goal.returns
returns c = search (row_key)
