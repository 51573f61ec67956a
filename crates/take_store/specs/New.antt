-- Records of a block that are new beside the counts held.
-- Assumes nothing.
use Rattle.std.specs.Prelude.{ℕ, zero, suc, ◌<◌, Bool, true, ◌&&◌, List, ltb, leb, get_or}
use Rattle.model.specs.Record.{Rec, unit, num}
use Rattle.model.specs.Log.{rank}

-- the units of the first n records are below 8
pub record Units (at : ℕ → Rec) (n : ℕ) : Type 0 where
  pub below : (j : ℕ) → j < n → unit (at j) < 8

-- the number of a record is above the count of its unit
unfoldable pub is_new : List ℕ → Rec → Bool
is_new held r = ltb (get_or held (unit r) 0) (num r)

-- the n records from j on are new, the first ranks no lower than the floor, and each next one above the one before
unfoldable pub new_from : List ℕ → (ℕ → Rec) → ℕ → ℕ → ℕ → Bool
new_from held at floor j zero = true
new_from held at floor j (suc n) = is_new held (at j) && (leb floor (rank (at j)) && new_from held at (suc (rank (at j))) (suc j) n)
