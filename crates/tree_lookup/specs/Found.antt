-- The row that a look-up found.
-- Assumes nothing.
use Rattle.std.specs.Prelude.{ℕ, Option, None, Some}

-- the row that was found among n, or n for none
abbrev pub row_or : ℕ → Option ℕ → ℕ
row_or n None = n
row_or n (Some row) = row
