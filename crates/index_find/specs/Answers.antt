-- What looking up and listing answer, as the model says it.
-- Assumes nothing.
use Rattle.std.specs.Prelude.{ℕ, Result, Ok, Err}
use Rattle.refusal.specs.declared.Refusal.{Refusal}
use Rattle.refusal.specs.Refusals.{number_of}
use Rattle.index_model.specs.Index.{Found, found, range, Range as Rows}
use Rattle.index_find.specs.declared.Range.{Range}

-- the entry looked up; a refusal has none
abbrev pub found_by : Result ℕ Refusal → Found
found_by (Ok entry) = found 0 entry
found_by (Err refusal) = found (number_of refusal) 0

-- the rows listed; a refusal has none
abbrev pub listed_by : Result Range Refusal → Rows
listed_by (Ok rows) = range 0 rows.first rows.count
listed_by (Err refusal) = range (number_of refusal) 0 0
