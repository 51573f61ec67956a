-- A row becomes row i of n.
use Rattle.index_change.proofs.Changes.{row_put}
use Rattle.index_change.proofs.put_row.Goals as goal

pub returns : goal.returns
returns c = search (row_put)
