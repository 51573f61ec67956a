-- Chains of rows in a part of a register, 4,097 numbers from a place on.
--   0-1,023 the first node of each chain; 1,024-2,559 the node behind each node; 2,560-4,095 the row of each node; 4,096 how many
--   nodes there are. Nodes count from 1 on; 0 is none.
-- Assumes nothing.
use Rattle.std.specs.Prelude.{ℕ, zero, suc, ◌+◌, ◌≤◌, ◌<◌, ◌≡◌, ◌⊎◌, cond, not, ◌&&◌, List, eqb, get_or, length, set}

-- how many nodes there are
unfoldable pub nodes_in : ℕ → List ℕ → ℕ
nodes_in from l = get_or l (from + 4096) 0

-- the first node of the chain h
unfoldable pub first_of : ℕ → List ℕ → ℕ → ℕ
first_of from l h = get_or l (from + h) 0

-- the node behind the node q
unfoldable pub behind : ℕ → List ℕ → ℕ → ℕ
behind from l q = get_or l (from + 1023 + q) 0

-- the row of the node q
unfoldable pub row_at : ℕ → List ℕ → ℕ → ℕ
row_at from l q = get_or l (from + 2559 + q) 0

-- a node more for a row, first in the chain h
unfoldable pub pushed : ℕ → List ℕ → ℕ → ℕ → List ℕ
pushed from l h row =
    set
    (set
    (set (set l (from + 2560 + nodes_in from l) row) (from + 1024 + nodes_in from l) (first_of from l h))
    (from + h)
    (nodes_in from l + 1))
    (from + 4096)
    (nodes_in from l + 1)

-- the chain h without its first node, if that is one of the row
unfoldable pub popped : ℕ → List ℕ → ℕ → ℕ → List ℕ
popped from l h row =
    cond
    (not (eqb (first_of from l h) 0) && eqb (row_at from l (first_of from l h)) row)
    (set l (from + h) (behind from l (first_of from l h)))
    l

-- chains that end: behind a node stands an older one
pub record Chains (from : ℕ) (l : List ℕ) : Type 0 where
  pub long : from + 4097 ≤ length l
  pub few : nodes_in from l ≤ 1536
  pub firsts : (h : ℕ) → h < 1024 → first_of from l h ≤ nodes_in from l
  pub falls : (q : ℕ) → 1 ≤ q → q ≤ nodes_in from l → behind from l q < q

-- a node of the row r comes within so many steps from the node q on
abbrev pub Reach : ℕ → List ℕ → ℕ → ℕ → ℕ → Type 0
Reach from l zero q r = ⊥
Reach from l (suc s) q r = (1 ≤ q) × ((row_at from l q ≡ r) ⊎ Reach from l s (behind from l q) r)

-- a node of the row r comes from the node q on
pub record Found (from : ℕ) (l : List ℕ) (q r : ℕ) : Type 0 where
  pub steps : ℕ
  pub there : Reach from l steps q r
