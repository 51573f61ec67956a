-- What the answer of converting a file comes to.
-- Assumes nothing.
use Rattle.std.specs.Prelude.{ℕ, Result, Ok, Err}

-- the count of blocks written, 0 of a refusal
abbrev pub blocks_of : {E : Type 0} → Result ℕ E → ℕ
blocks_of (Ok blocks) = blocks
blocks_of (Err fault) = 0
