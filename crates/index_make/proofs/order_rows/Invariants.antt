-- The first n rows of a table in order, the last row first.
use Rattle.std.proofs.Common.{◌≡◌, ◌-◌, length, take}
use Rattle.index_model.specs.Index.{index_places}
use Rattle.index_laws.specs.Copied.{ordered_rows}
use Rattle.index_make.proofs.order_rows.Given as goal

abbrev pub invariant-loop-k : goal.invariant-loop-k
invariant-loop-k l = (length l.order ≡ index_places) × (take l.k l.order ≡ ordered_rows l.table (l.n - l.k) l.k)
