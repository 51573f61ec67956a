-- Row i becomes row j, unless its entry was removed; the row that comes next.
use Rattle.tree_finish.proofs.Compaction.{keeps-row}
use Rattle.tree_finish.proofs.keep_row.Goals as goal

pub returns : goal.returns
returns c = search (keeps-row)
