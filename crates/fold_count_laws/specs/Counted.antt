-- How many entries are present, and how the number goes on by what a step shows of itself.
-- Assumes nothing.
use Rattle.std.specs.Prelude.{ℕ, ◌+◌, ◌-◌, Bool, cond, ◌&&◌, leb, eqb, length}
use Rattle.model.specs.Lengths.{base_places}
use Rattle.model.specs.Replay.{Tree, present_ones}

unfoldable pub present_count : Tree → ℕ
present_count t = length (present_ones t.entries)

-- of n entries present before a record of the operation o, how many are afterwards; stood says that the record stands aside
unfoldable pub count_after : ℕ → Bool → ℕ → ℕ
count_after o stood n = cond stood n (cond (leb o 2) (n + 1) (cond (eqb o 4) (n - 1) n))

-- so many entries and asides have room in a base [F136]
unfoldable pub room_in : ℕ → ℕ → Bool
room_in entries asides = leb entries base_places && leb asides base_places
