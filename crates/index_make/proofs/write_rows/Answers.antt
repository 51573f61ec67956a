-- Rows of an index are written for the first n rows of an order.
use Rattle.index_make.proofs.Writing.{write_none, write_next}
use Rattle.index_make.proofs.write_rows.Goals as goal

pub loop-j-init : goal.loop-j-init
loop-j-init c = search (write_none)

pub loop-j-preserved : goal.loop-j-preserved
loop-j-preserved c = search (write_next)
