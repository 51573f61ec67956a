-- What the answer of a row comes to: zeros behind a refusal.
-- Assumes nothing.
use Rattle.std.specs.Prelude.{ℕ, Result, Ok, Err}
use Rattle.refusal.specs.declared.Refusal.{Refusal}
use Rattle.take_row_judge.specs.Stopped.{stop_code}
use Rattle.take_row.specs.declared.RowTaken.{RowTaken}

-- how many blocks were taken
abbrev pub taken_of : Result RowTaken Refusal → ℕ
taken_of (Ok row) = row.taken
taken_of (Err refusal) = 0

-- the number of what stopped the row, 0 if nothing did
abbrev pub stopped_of : Result RowTaken Refusal → ℕ
stopped_of (Ok row) = stop_code row.stopped
stopped_of (Err refusal) = 0
