-- The records that a base stands for, beside those of the log.
-- Assumes nothing.
use Rattle.std.specs.Prelude.{ℕ, ◌<◌, ◌≡◌, List, get_or}
use Rattle.model.specs.Record.{Rec}
use Rattle.model.specs.Log.{count}

-- the vector v counts the records p
abbrev pub Counts : List ℕ → List Rec → Type 0
Counts v p = (u : ℕ) → u < 8 → get_or v u 0 ≡ count u p
