-- How many records an answer says were folded: none behind a refusal.
-- Assumes nothing.
use Rattle.std.specs.Prelude.{ℕ, Result, Ok, Err}
use Rattle.refusal.specs.declared.Refusal.{Refusal}

abbrev pub records_folded : Result ℕ Refusal → ℕ
records_folded (Ok records) = records
records_folded (Err refusal) = 0
