-- How far a row is from the top, as a number.
-- Assumes nothing.
use Rattle.std.specs.Prelude.{ℕ, Option, None, Some}

-- 513 is further than any row may be
abbrev pub steps_told : Option ℕ → ℕ
steps_told None = 513
steps_told (Some k) = k
