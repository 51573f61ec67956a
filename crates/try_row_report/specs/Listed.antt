-- The disputed entries of a tree table by their identities, and those of another table that are not among them.
-- Assumes nothing.
use Rattle.std.specs.Prelude.{ℕ, zero, suc, ◌+◌, ◌*◌, ◌≤◌, ◌<◌, ◌≡◌, Bool, false, cond, not, ◌&&◌, ◌||◌, List, [], ◌∷◌, ◌++◌, eqb, get_or, length}
use Rattle.model.specs.Lengths.{tree_size}
use Rattle.model.specs.Bytes.{word}
use Rattle.model.specs.Table.{identity_bytes, entry_in}
use Rattle.tree_table.specs.Rows.{InRange}

-- an identity for each row of a table
abbrev pub notes_size : ℕ
notes_size = 1024

-- the entry in row i of a table is disputed
unfoldable pub disputed_in : List ℕ → ℕ → Bool
disputed_in b i = eqb (get_or b (5 + 72 * i) 0) 1

-- its identity
unfoldable pub made_in : List ℕ → ℕ → ℕ
made_in b i = (entry_in b (4 + 72 * i)).made

-- a table with at most 1,024 entries, whose identities are in range
pub record Shown (b : List ℕ) : Type 0 where
  pub long : length b ≡ tree_size
  pub few : word b 0 ≤ 1024
  pub range : (i : ℕ) → i < word b 0 → InRange (made_in b i)

-- the identities of the disputed entries among the first n
unfoldable pub noted : List ℕ → ℕ → List ℕ
noted b zero = []
noted b (suc n) = cond (disputed_in b n) (noted b n ++ (made_in b n ∷ [])) (noted b n)

-- k is one of the identities l
unfoldable pub is_among : ℕ → List ℕ → Bool
is_among k [] = false
is_among k (x ∷ l) = eqb x k || is_among k l

unfoldable pub is_new_in : List ℕ → List ℕ → ℕ → Bool
is_new_in b l i = disputed_in b i && not (is_among (made_in b i) l)

-- how many of the first n entries are disputed and not among l
unfoldable pub listed_count : List ℕ → List ℕ → ℕ → ℕ
listed_count b l zero = 0
listed_count b l (suc n) = cond (is_new_in b l n) (listed_count b l n + 1) (listed_count b l n)

-- their identities, laid one behind another
unfoldable pub listed : List ℕ → List ℕ → ℕ → List ℕ
listed b l zero = []
listed b l (suc n) = cond (is_new_in b l n) (listed b l n ++ identity_bytes (made_in b n)) (listed b l n)
