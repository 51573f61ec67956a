-- The number of what stops a row.
-- Assumes nothing.
use Rattle.std.specs.Prelude.{ℕ, Option, Some, None}
use Rattle.refusal.specs.declared.Refusal.{Refusal}
use Rattle.refusal.specs.Refusals.{number_of}

-- 0 where nothing stops it
abbrev pub stop_code : Option Refusal → ℕ
stop_code None = 0
stop_code (Some refusal) = number_of refusal
