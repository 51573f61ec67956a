-- What the answer of writing a file comes to.
-- Assumes nothing.
use Rattle.std.specs.Prelude.{ℕ, Result, Ok, Err}
use Rattle.refusal.specs.declared.Refusal.{Refusal}

-- the count of blocks written, 0 of a refusal
abbrev pub blocks_of : Result ℕ Refusal → ℕ
blocks_of (Ok blocks) = blocks
blocks_of (Err refusal) = 0
