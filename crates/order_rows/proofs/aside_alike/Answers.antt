-- Rows i and j of asides are the same.
use Rattle.order_rows.proofs.Ways.{asides_same}
use Rattle.order_rows.proofs.aside_alike.Goals as goal

pub returns : goal.returns
returns c = search (asides_same)
