-- How many records of the log an answer tells: none behind a refusal.
-- Assumes nothing.
use Rattle.std.specs.Prelude.{ℕ, Result, Ok, Err}
use Rattle.refusal.specs.declared.Refusal.{Refusal}

abbrev pub records_told : Result ℕ Refusal → ℕ
records_told (Ok records) = records
records_told (Err refusal) = 0
