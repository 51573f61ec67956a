-- A row after a move.
use Rattle.tree_table.specs.Rows.{moved_row}
use Rattle.tree_table.proofs.move_row.Goals as goal

pub returns : goal.returns
unfolding moved_row
returns c = cc
