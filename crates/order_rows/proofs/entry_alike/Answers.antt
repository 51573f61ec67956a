-- Rows i and j of entries show the same: all but the last contents and the last place record.
use Rattle.order_rows.proofs.Ways.{heads_differ, rows_same}
use Rattle.order_rows.proofs.entry_alike.Goals as goal

pub returns-then-not-same : goal.returns-then-not-same
returns-then-not-same c = search (heads_differ)

pub returns : goal.returns
returns c = search (rows_same)
