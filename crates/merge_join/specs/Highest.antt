-- The higher counts of two vectors.
-- Assumes nothing.
use Rattle.std.specs.Prelude.{ℕ, max, List, [], ◌∷◌, get_or}

-- of each unit the higher count
unfoldable pub highest : List ℕ → List ℕ → List ℕ
highest a b =
    max (get_or a 0 0) (get_or b 0 0)
    ∷ max (get_or a 1 0) (get_or b 1 0)
    ∷ max (get_or a 2 0) (get_or b 2 0)
    ∷ max (get_or a 3 0) (get_or b 3 0)
    ∷ max (get_or a 4 0) (get_or b 4 0)
    ∷ max (get_or a 5 0) (get_or b 5 0)
    ∷ max (get_or a 6 0) (get_or b 6 0)
    ∷ max (get_or a 7 0) (get_or b 7 0)
    ∷ []
