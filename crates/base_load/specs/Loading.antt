-- A base on its way into a working table and the register beside it: what it must be, and what stands after so many rows.
-- Assumes nothing.
use Rattle.std.specs.Prelude.{ℕ, zero, suc, ◌≤◌, ◌<◌, ◌≡◌, ◌⊎◌, true, cond, List, [], ◌∷◌, eqb, get_or, length}
use Rattle.model.specs.Bytes.{part, put_at}
use Rattle.model.specs.Record.{identity_at}
use Rattle.model.specs.Replay.{Entry, Aside, Tree, is_present, removed}
use Rattle.model.specs.Table.{identity_bytes, work_bytes}
use Rattle.base_model.specs.Base.{base_entry, base_aside, base_entries, base_asides}
use Rattle.hash_chains.specs.Chains.{nodes_in}
use Rattle.tree_table.specs.Rows.{InRange}
use Rattle.tree_maps.specs.Keys.{register_size, Keyed}
use Rattle.tree_lookup.specs.Roles.{Named, Home}

-- the identities that an entry names are in range; its folder may be the root
pub record Ranged (e : Entry) : Type 0 where
  pub own : InRange e.made
  pub folder : e.inside < 524288
  pub contents : e.contents < 524288
  pub placing : e.placing < 524288

-- an aside, and what it marks, or none
pub record Noted (a : Aside) : Type 0 where
  pub own : InRange a.who
  pub mark : (a.marked ≡ 0) ⊎ InRange a.marked

-- a base whose n entries and m asides can be put into a table
pub record Loads (b : List ℕ) (n m : ℕ) : Type 0 where
  pub long : length b ≡ 43032
  pub few : n ≤ 512
  pub few_asides : m ≤ 512
  pub rows : (i : ℕ) → i < n → Ranged (base_entry b i)
  pub here : (i : ℕ) → i < n → is_present (base_entry b i) ≡ true
  pub notes : (j : ℕ) → j < m → Noted (base_aside b j)
  pub once : (i j : ℕ) → i < j → j < n → (base_entry b i).made ≡ (base_entry b j).made → ⊥
  pub notes_once : (i j : ℕ) → i < j → j < m → (base_aside b i).who ≡ (base_aside b j).who → ⊥
  pub not_both : (i j : ℕ) → i < n → j < m → (base_entry b i).made ≡ (base_aside b j).who → ⊥
  pub housed : (i : ℕ) → i < n → Home (base_entry b i).inside (base_entries b 0 n)

-- the tree of the first i entries and the first j asides
unfoldable pub tree_to : List ℕ → ℕ → ℕ → Tree
tree_to b i j = record { entries = base_entries b 0 i; asides = base_asides b 0 j }

-- table and register after i entries and j asides; no label is entered yet
pub record Loading (b table register : List ℕ) (i j : ℕ) : Type 0 where
  pub bytes : table ≡ work_bytes (tree_to b i j)
  pub wide : length register ≡ register_size
  pub named : Named register (tree_to b i j)
  pub blank : (q : ℕ) → 4097 ≤ q → get_or register q 0 ≡ 0

-- of entries the first i as they are, the others as if removed
unfoldable pub awaiting : ℕ → List Entry → List Entry
awaiting i [] = []
awaiting zero (e ∷ l) = removed e ∷ awaiting zero l
awaiting (suc i) (e ∷ l) = e ∷ awaiting i l

-- the register after the labels of the first i entries of n
pub record Entering (b register : List ℕ) (n m i : ℕ) : Type 0 where
  pub named : Named register (tree_to b n m)
  pub keyed : Keyed register n (awaiting i (base_entries b 0 n))
  pub nodes : nodes_in 4097 register ≡ i

-- the row of an entry, field by field, from the 72 bytes s of the base
unfoldable pub loaded_row : List ℕ → List ℕ → List ℕ
loaded_row row s =
    put_at
    (put_at
    (put_at
    (put_at (put_at (put_at row 0 (get_or s 0 0 ∷ 0 ∷ 0 ∷ 0 ∷ [])) 4 (identity_bytes (identity_at s 4))) 8 (identity_bytes (identity_at s 8)))
    12
    (identity_bytes (identity_at s 12)))
    16
    (identity_bytes (identity_at s 16)))
    20
    (part s 20 52)

-- 1 open, 2 settled
unfoldable pub state_of : ℕ → ℕ
state_of x = cond (eqb x 1) 1 2

-- the row of an aside, from the 12 bytes s of the base
unfoldable pub loaded_aside : List ℕ → List ℕ → List ℕ
loaded_aside row s =
    put_at
    (put_at (put_at row 0 (identity_bytes (identity_at s 0))) 4 (get_or s 4 0 ∷ state_of (get_or s 5 0) ∷ 0 ∷ 0 ∷ []))
    8
    (identity_bytes (identity_at s 8))
