-- The place of a thing that was found, as the tables have it.
-- Assumes nothing.
use Rattle.std.specs.Prelude.{ℕ, ◌+◌, Option, None, Some}

-- one above it, or 0 for none
abbrev pub place_told : Option ℕ → ℕ
place_told None = 0
place_told (Some i) = i + 1
