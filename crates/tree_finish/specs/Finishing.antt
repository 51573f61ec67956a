-- Tables on the way from the working table to the table shown.
-- Assumes nothing.
use Rattle.std.specs.Prelude.{ℕ, zero, suc, ◌+◌, ◌-◌, ◌*◌, ◌≤◌, ◌≡◌, cond, List, [], ◌++◌, eqb, get_or, replicate}
use Rattle.model.specs.Table.{flagged, work_bytes}
use Rattle.model.specs.Bytes.{two, part, put_at}
use Rattle.model.specs.Replay.{Aside, Tree}
use Rattle.tree_lookup.specs.Roles.{Works}

-- a table that holds the tree t, with the flags of the asides s
pub record Marked (s : List Aside) (b register : List ℕ) (n m : ℕ) (t : Tree) : Type 0 where
  pub bytes : b ≡ flagged s t.entries t.asides
  pub works : Works (work_bytes t) register n m t

-- the rows of present entries among the first n, laid end to end
unfoldable pub kept_to : List ℕ → ℕ → List ℕ
kept_to b zero = []
kept_to b (suc n) = cond (eqb (get_or b (4 + 72 * n) 0) 0) (kept_to b n) (kept_to b n ++ part b (4 + 72 * n) 72)

-- how many of the first n entries are present
unfoldable pub present_to : List ℕ → ℕ → ℕ
present_to b zero = 0
present_to b (suc n) = cond (eqb (get_or b (4 + 72 * n) 0) 0) (present_to b n) (suc (present_to b n))

-- row i moved to row j, or left if its entry was removed, and the row that comes next
pub record Kept (b b' : List ℕ) (i j next : ℕ) : Type 0 where
  pub rows : b' ≡ cond (eqb (get_or b (4 + 72 * i) 0) 0) b (put_at b (4 + 72 * j) (part b (4 + 72 * i) 72))
  pub count : next ≡ cond (eqb (get_or b (4 + 72 * i) 0) 0) j (suc j)

-- the rows of present entries moved to the front, and how many they are
pub record Compacted (b b' : List ℕ) (n count : ℕ) : Type 0 where
  pub rows : b' ≡ put_at b 4 (kept_to b n)
  pub present : count ≡ present_to b n
  pub few : count ≤ n

-- the rows of present entries among the first n alone, zeros behind them, and the counts
unfoldable pub trimmed : List ℕ → ℕ → ℕ → List ℕ
trimmed b n m =
    put_at
    (put_at (put_at (put_at b 4 (kept_to b n)) (4 + 72 * present_to b n) (replicate (72 * (n - present_to b n)) 0)) 0 (two (present_to b n)))
    2
    (two m)
