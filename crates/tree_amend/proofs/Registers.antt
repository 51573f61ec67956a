-- The register after a rename, after a move and after a remove.
-- Assumes nothing.
use Prim.Native.Nat.{ℕ, ◌+◌, ◌-◌, ◌*◌, ◌≤◌, ◌<◌}
use native.Mathlib.Omega.{arith}
use mathlib.Core.Path.{◌≡◌, sym, ◌∙◌}
use mathlib.Core.Option.{some}
use mathlib.Core.List.{List}
use lib.ListN.{length, take, drop}
use Rattle.model.specs.Bytes.{part}
use Rattle.model.specs.Record.{Rec, object_of, folder_of, label_of}
use Rattle.model.specs.Replay.{Entry, entry_of}
use Rattle.model.specs.Table.{entry_in}
use Rattle.tree_table.specs.Rows.{entries_from, tree_in, row_in}
use Rattle.tree_maps.specs.Keys.{relabelled, left, shifted}
use Rattle.tree_lookup.specs.Roles.{row_of, Holds}
use Rattle.tree_lookup.specs.Lookup.{row_among}
use Rattle.tree_lookup.proofs.Working.{row-none, row_some}
use Rattle.tree_amend.specs.Registers.{for_found, renamed_on, removed_on, shifted_on, moved_on}
use Rattle.tree_amend.proofs.Amending.{row_end}

-- a part of a row lies within the table
pub within_row : (b register : List ℕ) (n m : ℕ) → Holds b register n m → (row k : ℕ) → row < n → k ≤ 72 → 4 + 72 * row + k ≤ length b
within_row b register n m w row k h g = omega (arith, row_end b register n m w row h)

-- the label of a row, as it is lent
label_lent : (b : List ℕ) (at : ℕ) → take (at + 56 - (at + 24)) (drop (at + 24) b) ≡ (entry_in b at).label
unfolding entry_in part
label_lent b at = let e : at + 56 - (at + 24) ≡ 32 = omega arith in rw e

module _ (b : List ℕ) (n m : ℕ) (register : List ℕ) (r : Rec) (k row : ℕ) (p : k ≡ object_of r) (a : row ≡ row_among (entries_from b 0 n) (entry_of k (entries_from b 0 n))) (o : row_in b n row ≡ entry_of k (entries_from b 0 n)) where
  found_none : n ≤ row → (g : Entry → ℕ → List ℕ) → register ≡ for_found g register (entries_from b 0 n) (entry_of (object_of r) (entries_from b 0 n))
  unfolding for_found
  found_none h g = rw (← p, ← o, row-none b n row h)

  found_some : row < n → (g : Entry → ℕ → List ℕ) → g (entry_in b (4 + 72 * row)) row ≡ for_found g register (entries_from b 0 n) (entry_of (object_of r) (entries_from b 0 n))
  unfolding for_found
  found_some h g =
      let e : entry_of k (entries_from b 0 n) ≡ some (entry_in b (4 + 72 * row)) = sym o ∙ row_some b n row h in
      let i : row ≡ row_among (entries_from b 0 n) (some (entry_in b (4 + 72 * row))) = rw e at a in
      rw (← p, e, ← i)

  pub rename_leaves : n ≤ row → register ≡ renamed_on r (tree_in b n m) register
  unfolding renamed_on tree_in
  rename_leaves h = found_none h _

  pub remove_leaves : n ≤ row → register ≡ removed_on r (tree_in b n m) register
  unfolding removed_on tree_in
  remove_leaves h = found_none h _

  pub move_leaves : n ≤ row → register ≡ moved_on r (tree_in b n m) register
  unfolding moved_on tree_in
  move_leaves h = found_none h _

  module _ (h : row < n) (f : ℕ) (q : f ≡ (entry_in b (4 + 72 * row)).inside) (l : List ℕ) where
    pub rename_register : l ≡ relabelled register f (take (4 + 72 * row + 56 - (4 + 72 * row + 24)) (drop (4 + 72 * row + 24) b)) (label_of r) row
        → l ≡ renamed_on r (tree_in b n m) register
    unfolding renamed_on tree_in
    rename_register x = (rw (q, label_lent b (4 + 72 * row)) at x) ∙ found_some h _

    pub remove_register : (s : ℕ) → s ≡ row_of f (tree_in b n m) → l ≡ left register s f (take (4 + 72 * row + 56 - (4 + 72 * row + 24)) (drop (4 + 72 * row + 24) b)) row
        → l ≡ removed_on r (tree_in b n m) register
    unfolding removed_on tree_in
    remove_register s y x = (rw (y, q, label_lent b (4 + 72 * row)) at x) ∙ found_some h _

  module _ (h : row < n) where
    pub move_register : (l : List ℕ) → l ≡ shifted_on r (tree_in b n m) register (entry_in b (4 + 72 * row)) row → l ≡ moved_on r (tree_in b n m) register
    unfolding moved_on tree_in
    move_register l x = x ∙ found_some h _

-- what `shift_entry` leaves
pub shift_register : (b : List ℕ) (n m : ℕ) (register : List ℕ) (r : Rec) (row f g s u : ℕ) (l : List ℕ) → f ≡ (entry_in b (4 + 72 * row)).inside → g ≡ folder_of r
    → s ≡ row_of f (tree_in b n m) → u ≡ row_of g (tree_in b n m)
    → l ≡ shifted register s f (take (4 + 72 * row + 56 - (4 + 72 * row + 24)) (drop (4 + 72 * row + 24) b)) u g (label_of r) row
    → l ≡ shifted_on r (tree_in b n m) register (entry_in b (4 + 72 * row)) row
unfolding shifted_on
shift_register b n m register r row f g s u l q z y v x = rw (y, v, q, z, label_lent b (4 + 72 * row)) at x
