-- The row that a look-up answers.
-- Assumes nothing.
use Rattle.std.specs.Prelude.{ℕ, ◌-◌, List, length}
use Rattle.std.proofs.Math.Option.{Option, none, some}
use Rattle.model.specs.Replay.{Entry}
use Rattle.tree_lookup.specs.Roles.{row_from}

-- the row of an entry that was looked up among entries, or their number if there is none
unfoldable pub row_among : List Entry → Option Entry → ℕ
row_among es none = length es
row_among es (some e) = row_from e.made 0 es - 1
