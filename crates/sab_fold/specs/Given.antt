-- The list that folding is given as a number of 32 bits.
-- Assumes nothing.
use Rattle.std.specs.Prelude.{ℕ, cond, leb}

-- the list in a byte: a number above 255 becomes 0, a list of no unit, which is refused with 26 in its place [F139]
unfoldable pub list_given : ℕ → ℕ
list_given m = cond (leb m 255) m 0
