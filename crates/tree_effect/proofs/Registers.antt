-- The register after a make, after a record that stands aside, and after any record that fits.
-- Assumes nothing.
use Prim.Native.Nat.{ℕ, ◌+◌, ◌≤◌}
use mathlib.Core.Path.{◌≡◌}
use mathlib.Core.List.{List}
use borrow.Author.Tests.{le-leb}
use Rattle.model.specs.Record.{Rec, op, self_of, folder_of, label_of}
use Rattle.model.specs.Replay.{Tree}
use Rattle.tree_table.specs.Rows.{tree_in}
use Rattle.tree_lookup.specs.Roles.{row_of, Holds}
use Rattle.tree_maps.specs.Keys.{named, entered}
use Rattle.tree_amend.specs.Registers.{made_on, renamed_on, removed_on, moved_on, effect_on, aside_on}

module _ (b register : List ℕ) (n m : ℕ) (w : Holds b register n m) (r : Rec) (me : ℕ) (q : me ≡ self_of r) (l : List ℕ) where
  pub make_register : l ≡ named register me (n + 1) → (f p : ℕ) → f ≡ folder_of r → p ≡ row_of f (tree_in b n m) → (l' : List ℕ) → l' ≡ entered l p f (label_of r) n → l' ≡ made_on r (tree_in b n m) register
  unfolding made_on
  make_register g f p e s l' x = rw (w.rows, ← q, ← g, ← e, ← s) x

  pub aside_register : l ≡ named register me (1025 + m) → l ≡ aside_on r (tree_in b n m) register
  unfolding aside_on
  aside_register g = rw (w.notes, ← q) g

-- ---- any operation

module _ (r : Rec) (t : Tree) (register l : List ℕ) where
  pub make_turns : op r ≤ 2 → l ≡ made_on r t register → l ≡ effect_on r t register
  unfolding effect_on
  make_turns h x = rw (le-leb (op r) 2 h) x

  pub remove_turns : 4 ≡ op r → l ≡ removed_on r t register → l ≡ effect_on r t register
  unfolding effect_on
  remove_turns h x = rw (← h) x

  pub rename_turns : 5 ≡ op r → l ≡ renamed_on r t register → l ≡ effect_on r t register
  unfolding effect_on
  rename_turns h x = rw (← h) x

  pub move_turns : 7 ≡ op r → l ≡ moved_on r t register → l ≡ effect_on r t register
  unfolding effect_on
  move_turns h x = rw (← h) x

module _ (r : Rec) (t : Tree) (register : List ℕ) where
  pub store_turns : 3 ≡ op r → register ≡ effect_on r t register
  unfolding effect_on
  store_turns h = rw (← h)

  pub settle_turns : 6 ≡ op r → register ≡ effect_on r t register
  unfolding effect_on
  settle_turns h = rw (← h)
