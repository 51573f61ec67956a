-- The word that a call of the static library returns, the unit that it is given, and the head of a file.
-- Assumes nothing.
use Rattle.std.specs.Prelude.{ℕ, ◌+◌, ◌*◌, cond, List, [], ◌∷◌, ◌++◌, leb}
use Rattle.model.specs.Bytes.{two, four}
use Rattle.model.specs.Vector.{vector_bytes}

-- number, place and count in one word: bits 0 to 7, 8 to 15, 16 to 31
unfoldable pub packed : ℕ → ℕ → ℕ → ℕ
packed number place count = number + 256 * place + 65536 * count

-- the own unit in a byte: any number above 7 becomes 255
unfoldable pub narrowed : ℕ → ℕ
narrowed u = cond (leb u 7) u 255

-- what a file says of itself, in 24 bytes: archive, unit, zero, record count, vector
unfoldable pub head_of : ℕ → ℕ → ℕ → List ℕ → List ℕ
head_of archive u n v = four archive ++ ((u ∷ 0 ∷ []) ++ (two n ++ vector_bytes v))
