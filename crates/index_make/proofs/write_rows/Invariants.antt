-- Rows of an index are written for the first n rows of an order.
use Rattle.std.proofs.Common.{◌≡◌, take}
use Rattle.model.specs.Bytes.{put_at}
use Rattle.index_laws.specs.Copied.{copied_rows}
use Rattle.index_make.proofs.write_rows.Given as goal

abbrev pub invariant-loop-j : goal.invariant-loop-j
invariant-loop-j l = l.index ≡ put_at l.initial.index 4 (copied_rows l.table (take l.j l.order))
