-- A row is written: folder, label, entry.
use Rattle.index_change.proofs.Changes.{row_written}
use Rattle.index_change.proofs.write_row.Goals as goal

pub returns : goal.returns
returns c = search (row_written)
