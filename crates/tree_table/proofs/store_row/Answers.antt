-- A row after a store.
use Rattle.model.specs.Bytes.{part}
use Rattle.tree_table.specs.Rows.{stored_row}
use Rattle.model.specs.Record.{date_bytes, mark_of}
use Rattle.tree_table.proofs.store_row.Goals as goal

pub returns : goal.returns
unfolding stored_row date_bytes mark_of part
returns c = cc
