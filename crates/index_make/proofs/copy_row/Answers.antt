-- Row j of an index is written for a row of a table: folder, label, entry.
use Rattle.index_make.proofs.Writing.{row_copied}
use Rattle.index_make.proofs.copy_row.Goals as goal

pub returns : goal.returns
returns c = search (row_copied)
