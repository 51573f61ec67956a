-- Vectors that start at 1, as the report has them; ours start at 0.
-- Assumes nothing.
use Rattle.std.specs.Prelude.{ℕ, ◌+◌, List, [], ◌∷◌}

-- every count raised by one
unfoldable pub raised : List ℕ → List ℕ
raised [] = []
raised (x ∷ v) = (x + 1) ∷ raised v
