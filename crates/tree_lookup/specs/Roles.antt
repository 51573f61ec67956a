-- Where an identity stands in a tree, and the table and the register that hold a tree while records are replayed.
-- Assumes nothing.
use Rattle.std.specs.Prelude.{ℕ, zero, suc, ◌+◌, ◌-◌, ◌*◌, ◌≤◌, ◌<◌, ◌≡◌, ◌⊎◌, Bool, cond, List, [], ◌∷◌, leb, eqb, length}
use Rattle.model.specs.Replay.{Entry, Aside, Tree, is_holder}
use Rattle.model.specs.Table.{entry_in, work_bytes}
use Rattle.tree_table.specs.Rows.{tree_in, InRange, AllProper}
use Rattle.hash_chains.specs.Chains.{nodes_in, first_of, row_at, Chains, Found}
use Rattle.tree_maps.specs.Keys.{link_of, made_at, Keyed}

-- of rows counted from i on, one above the first that holds the entry k, present or removed; 0 for none
unfoldable pub row_from : ℕ → ℕ → List Entry → ℕ
row_from k i [] = 0
row_from k i (e ∷ l) = cond (eqb e.made k) (suc i) (row_from k (suc i) l)

-- of asides counted from i on, one above the first that is the record k; 0 for none
unfoldable pub note_from : ℕ → ℕ → List Aside → ℕ
note_from k i [] = 0
note_from k i (a ∷ l) = cond (eqb a.who k) (suc i) (note_from k (suc i) l)

unfoldable pub row_of : ℕ → Tree → ℕ
row_of k t = row_from k 0 t.entries

unfoldable pub note_of : ℕ → Tree → ℕ
note_of k t = note_from k 0 t.asides

-- what tells an aside's place from a row
unfoldable pub behind_rows : ℕ → ℕ
behind_rows zero = 0
behind_rows (suc n) = 1025 + n

-- the role of the identity k: 0 none, 1 to 1024 the row of an entry and one, 1025 and on the place of an aside and 1025
unfoldable pub role_of : ℕ → Tree → ℕ
role_of k t = row_of k t + behind_rows (note_of k t)

-- the record of the aside at place i
unfoldable pub who_at : List Aside → ℕ → ℕ
who_at [] i = 0
who_at (a ∷ l) zero = a.who
who_at (a ∷ l) (suc i) = who_at l i

-- the identity that has a role
unfoldable pub name_of : Tree → ℕ → ℕ
name_of t r = cond (leb r 1024) (made_at t.entries (r - 1)) (who_at t.asides (r - 1025))

-- a role among n entries and m asides
pub record Role (n m r : ℕ) : Type 0 where
  pub least : 1 ≤ r
  pub most : r ≤ 1024 + m
  pub within : (r ≤ n) ⊎ (1024 < r)

-- the number r is the role of an identity
abbrev pub HasRole : Tree → ℕ → Type 0
HasRole t r = (1 ≤ r) × (role_of (name_of t r) t ≡ r)

-- the chains of a register in which each identity of a tree is found by its role
pub record Named (l : List ℕ) (t : Tree) : Type 0 where
  pub chains : Chains 0 l
  pub count : nodes_in 0 l ≡ length t.entries + length t.asides
  pub roles : (q : ℕ) → 1 ≤ q → q ≤ nodes_in 0 l → HasRole t (row_at 0 l q)
  pub found : (k : ℕ) → InRange k → (role_of k t ≡ 0 → ⊥) → Found 0 l (first_of 0 l (link_of k)) (role_of k t)

-- the entry in row i, which is not k, holds a label in the folder f
unfoldable pub holds_at : List ℕ → ℕ → ℕ → List ℕ → ℕ → Bool
holds_at b k f t i = is_holder k f t (entry_in b (4 + 72 * i))

-- of two rows the first, if it stands before the other and holds the label
unfoldable pub earlier_of : List ℕ → ℕ → ℕ → List ℕ → ℕ → ℕ → ℕ
earlier_of b k f t row best = cond (leb best row) best (cond (holds_at b k f t row) row best)

-- no entry is k
abbrev pub Absent : ℕ → List Entry → Type 0
Absent k [] = Unit {0}
Absent k (e ∷ l) = (e.made ≡ k → ⊥) × Absent k l

-- no two entries have one identity
abbrev pub Lone : List Entry → Type 0
Lone [] = Unit {0}
Lone (e ∷ l) = Absent e.made l × Lone l

-- the folder f is the root, or one of the entries, present or removed
abbrev pub Home : ℕ → List Entry → Type 0
Home f es = (f ≡ 0) ⊎ (1 ≤ row_from f 0 es)

-- each of some entries lies in such a folder
abbrev pub Housed : List Entry → List Entry → Type 0
Housed es [] = Unit {0}
Housed es (e ∷ l) = Home e.inside es × Housed es l

-- what asides mark is an identity in range, or none
abbrev pub MarksFit : List Aside → Type 0
MarksFit [] = Unit {0}
MarksFit (a ∷ l) = ((a.marked ≡ 0) ⊎ InRange a.marked) × MarksFit l

-- a table of n entries and m asides, and a register, that hold the tree t while records are replayed
pub record Works (b register : List ℕ) (n m : ℕ) (t : Tree) : Type 0 where
  pub bytes : b ≡ work_bytes t
  pub rows : length t.entries ≡ n
  pub notes : length t.asides ≡ m
  pub rows_fit_lem : n ≤ 1024
  pub notes_fit : m ≤ 1024
  pub proper : AllProper t.entries
  pub lone : Lone t.entries
  pub marks : MarksFit t.asides
  pub apart : (k : ℕ) → (row_of k t ≡ 0) ⊎ (note_of k t ≡ 0)
  pub housed : Housed t.entries t.entries
  pub named : Named register t
  pub keyed : Keyed register n t.entries

-- the same of the tree that the table shows
abbrev pub Holds : List ℕ → List ℕ → ℕ → ℕ → Type 0
Holds b register n m = Works b register n m (tree_in b n m)

-- what is asked of a table and a register in which the role of an identity is looked up
pub record Reads (b register : List ℕ) (n m : ℕ) : Type 0 where
  pub long : length b ≡ 86020
  pub rows_fit_lem : n ≤ 1024
  pub notes_fit : m ≤ 1024
  pub apart : (k : ℕ) → (row_of k (tree_in b n m) ≡ 0) ⊎ (note_of k (tree_in b n m) ≡ 0)
  pub named : Named register (tree_in b n m)
