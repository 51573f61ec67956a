-- The row of the entry that a make record makes.
use Rattle.tree_table.specs.Rows.{new_row}
use Rattle.model.specs.Record.{op}
use Rattle.model.specs.Bytes.{part}
use Rattle.tree_table.proofs.fill_row.Goals as goal

pub returns : goal.returns
unfolding new_row op part
returns c = cc
