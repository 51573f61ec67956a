-- Bytes, and whether they may stand in a new label: the ends of the range and around the stroke.
-- Document 02, K5.
-- Assumes nothing.
use Rattle.std.specs.Prelude.{ℕ, Bool, true, false, not, cond, ◌&&◌, List, [], ◌∷◌}
use Rattle.act_bytes.specs.Table.{may_stand}

unfoldable pub all_right : List (ℕ × Bool) → Bool
all_right [] = true
all_right (r ∷ l) = cond r.1 (may_stand r.0) (not (may_stand r.0)) && all_right l

unfoldable pub table : List (ℕ × Bool)
table =
    (0, false)
    ∷ (31, false)
    ∷ (32, true)
    ∷ (46, true)
    ∷ (47, false)
    ∷ (48, true)
    ∷ (126, true)
    ∷ (127, false)
    ∷ (255, false)
    ∷ []
