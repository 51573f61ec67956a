-- A row after a rename.
use Rattle.model.specs.Bytes.{part}
use Rattle.tree_table.specs.Rows.{renamed_row}
use Rattle.model.specs.Record.{label_of}
use Rattle.tree_table.proofs.rename_row.Goals as goal

pub returns : goal.returns
unfolding renamed_row label_of part
returns c = cc
