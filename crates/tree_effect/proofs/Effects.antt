-- What the functions that add a row or do what an operation says are asked, over plain values.
-- Assumes nothing.
use Prim.Native.Nat.{ℕ, ◌+◌, ◌-◌, ◌*◌, ◌≤◌, ◌<◌}
use native.Mathlib.Omega.{arith}
use mathlib.Core.Path.{◌≡◌, refl, ap, ◌∙◌}
use mathlib.Core.Logic.{◌⊎◌, ⊎_elim}
use mathlib.Core.Bool.{true}
use mathlib.Core.List.{List, [], ◌∷◌, ◌++◌}
use lib.ListN.{get_or, length, take, drop}
use borrow.Author.Tests.{ne_eqb, le-leb}
use borrow.Rule.Slice.PartMut.{put_mid}
use Rattle.model.specs.Bytes.{part}
use Rattle.model.specs.Record.{Rec, op, self_of, object_of, folder_of, label_of, uses_folder}
use Rattle.model.specs.Replay.{Entry, Tree, is_present, changed, settled, new_entry, stored, renamed, moved, removed, effect}
use Rattle.model.specs.Table.{entry_row, aside_row}
use Rattle.byte_slice.proofs.Parts.{part_is, part_length}
use Rattle.byte_slice.proofs.PutAt.{mid_put}
use Rattle.tree_table.specs.Rows.{entries_from, asides_from, tree_in, new_aside, new_row, InRange}
use Rattle.tree_table.proofs.Rows.{row-length, aside_row_length}
use Rattle.tree_table.proofs.Fields.{new_row_lem, new_proper}
use Rattle.tree_lookup.specs.Roles.{row_of, Home, Works, Holds}
use Rattle.hash_chains.specs.Chains.{nodes_in, Chains}
use Rattle.tree_maps.specs.Keys.{register_size, folder_at, named, entered, Keyed}
use Rattle.tree_maps.proofs.Counts.{children_few}
use Rattle.tree_maps.proofs.Keeping.{keyed_beside, named-long, named-behind, named_labels, entered_nodes}
use Rattle.tree_lookup.proofs.Working.{works_long}
use Rattle.tree_amend.specs.Effects.{with_entries, with_asides, Placed, Takes}
use Rattle.tree_amend.specs.Registers.{made_on}
use Rattle.tree_effect.proofs.Additions.{works_make, works_aside}

-- ---- numbers that fit

pub own_low : (t : Tree) (r : Rec) → Takes t r → self_of r < 524288
own_low t r h = let q = h.own.high in omega arith

pub folder_low : (t : Tree) (r : Rec) → Takes t r → op r ≤ 2 → folder_of r < 524288
unfolding uses_folder
folder_low t r h g =
    ⊎_elim (λ (q : folder_of r ≡ 0). omega arith) (λ (q : InRange (folder_of r)). let z = q.high in omega arith) (h.asks.folder (rw (le-leb (op r) 2 g)))

-- ---- a row more

new_present : (r : Rec) → 1 ≤ op r → is_present (new_entry r) ≡ true
unfolding is_present new_entry
new_present r h = rw (ne_eqb (op r) 0 (λ z. omega arith))

-- the chains of identities have room
module _ (b register : List ℕ) (n m : ℕ) (w : Holds b register n m) where
  pub name_chains : Chains 0 register
  name_chains = w.named.chains

  pub name_room : n + m < 1536 → nodes_in 0 register < 1536
  unfolding tree_in
  name_room room = omega (arith, w.named.count, w.rows, w.notes)

-- an identity gets a role, and the register is asked to enter an entry
module _ (b register : List ℕ) (n m : ℕ) (w : Holds b register n m) (both : n + m < 1536) (k v : ℕ) (l : List ℕ) (g : l ≡ named register k v) where
  role_keyed : Keyed l n (entries_from b 0 n)
  unfolding tree_in
  role_keyed =
      rw g
      (keyed_beside register n (entries_from b 0 n) w.keyed (named register k v) (named-long register k v)
      (named-behind register k v w.named.chains (name_room b register n m w both)))

  pub enter_chains : Chains 4097 l
  enter_chains = role_keyed.chains

  pub enter_wide : length l ≡ register_size
  enter_wide = role_keyed.wide

  kept_labels : nodes_in 4097 l ≡ nodes_in 4097 register
  kept_labels = rw g (named_labels register k v w.named.chains (name_room b register n m w both) w.keyed.chains)

  pub enter_nodes : nodes_in 4097 register < 1536 → nodes_in 4097 l < 1536
  enter_nodes room = rw kept_labels room

  pub enter_count : (p : ℕ) → p ≤ n → get_or l (8194 + p) 0 ≤ 1024
  unfolding tree_in
  enter_count p h =
      let rows = w.rows in
      let fit = w.rows_fit_lem in
      omega (arith, role_keyed.counted p h, children_few (folder_at (entries_from b 0 n) p) (entries_from b 0 n))

  pub role_kept : nodes_in 4097 l ≤ nodes_in 4097 register + 1
  role_kept = omega (arith, kept_labels)

  pub made_nodes : nodes_in 4097 register < 1536 → (p f : ℕ) (t : List ℕ) (row : ℕ) (l' : List ℕ) → l' ≡ entered l p f t row → nodes_in 4097 l' ≤ nodes_in 4097 register + 1
  made_nodes room p f t row l' x =
      omega (arith, ap (λ (y : List ℕ). nodes_in 4097 y) x, entered_nodes l p f t row enter_chains (enter_nodes room), kept_labels)

module _ (b register : List ℕ) (n m : ℕ) (w : Holds b register n m) (r : Rec) (h : Takes (tree_in b n m) r) (both : n + m < 1536) where
  pub entry_added : n < 1024 → nodes_in 4097 register < 1536 → Home (folder_of r) (entries_from b 0 n) → (l : List ℕ) → l ≡ made_on r (tree_in b n m) register
      → (ys : List ℕ) → ys ≡ new_row (take (4 + 72 * n + 72 - (4 + 72 * n)) (drop (4 + 72 * n) b)) r
      → Works
      (put_mid (4 + 72 * n) (4 + 72 * n + 72 - (4 + 72 * n)) b ys)
      l
      (n + 1)
      m
      (with_entries (tree_in b n m) (entries_from b 0 n ++ (new_entry r ∷ [])))
  unfolding tree_in new_entry made_on
  entry_added room nodes home l g ys y =
      let t = tree_in b n m in
      let long = h.asks.long in
      let bl = works_long b register n m t w in
      let fit = new_proper r long h.own in
      let c : length (part b (4 + 72 * n) 72) ≡ 72 = part_length b (4 + 72 * n) 72 (omega arith) in
      let z : ys ≡ entry_row 0 (new_entry r) = y ∙ rw (part_is b (4 + 72 * n) 72) (new_row_lem r long (part b (4 + 72 * n) 72) c) in
      let v = works_make b register n m t w (new_entry r) (row_of (folder_of r) t) room both nodes fit (new_present r h.asks.known) h.fresh home refl in
      let x : l ≡ entered (named register (self_of r) (n + 1)) (row_of (folder_of r) t) (folder_of r) (label_of r) n = rw w.rows at g in
      rw (mid_put (4 + 72 * n) 72 b ys (ap (λ (l : List ℕ). length l) z ∙ row-length 0 (new_entry r) fit), z, x) v

  pub aside_added : (me : ℕ) → me ≡ self_of r → m < 1024 → (reason marked : ℕ) → (marked ≡ 0) ⊎ InRange marked → (l : List ℕ) → l ≡ named register me (1025 + m) → (ys : List ℕ) → ys ≡ aside_row (new_aside me reason marked)
      → Works
      (put_mid (73732 + 12 * m) (73732 + 12 * m + 12 - (73732 + 12 * m)) b ys)
      l
      n
      (m + 1)
      (with_asides (tree_in b n m) (asides_from b 0 m ++ (new_aside (self_of r) reason marked ∷ [])))
  unfolding tree_in new_aside
  aside_added me q room reason marked fit l g ys y =
      let t = tree_in b n m in
      let a = new_aside (self_of r) reason marked in
      let z : ys ≡ aside_row a = y ∙ rw q in
      let v = works_aside b register n m t w a room both h.own h.fresh fit in
      rw (mid_put (73732 + 12 * m) 12 b ys (ap (λ (l : List ℕ). length l) z ∙ aside_row_length a), z, g, q) v

-- ---- the folder of a make and of a move

module _ (r : Rec) (es : List Entry) (p : Placed r es) where
  pub make_home : op r ≤ 2 → Home (folder_of r) es
  unfolding uses_folder
  make_home h = p.home (rw (le-leb (op r) 2 h))

  pub move_home : 7 ≡ op r → Home (folder_of r) es
  unfolding uses_folder
  move_home h = p.home (rw (← h))

-- ---- rows lie within the table

module _ (b register : List ℕ) (n m : ℕ) (w : Holds b register n m) where
  pub next_row_end : n < 1024 → 4 + 72 * n + 72 ≤ length b
  next_row_end h = omega (arith, works_long b register n m (tree_in b n m) w)

  pub next_note_end : m < 1024 → 73732 + 12 * m + 12 ≤ length b
  next_note_end h = omega (arith, works_long b register n m (tree_in b n m) w)

-- ---- any operation

module _ (b b' register register' : List ℕ) (n m n' m' : ℕ) (r : Rec) where
  pub effect_make : op r ≤ 2 → Works b' register' n' m' (with_entries (tree_in b n m) (entries_from b 0 n ++ (new_entry r ∷ []))) → Works b' register' n' m' (effect r (tree_in b n m))
  unfolding effect with_entries tree_in
  effect_make h v = rw (le-leb (op r) 2 h) v

  pub effect_store : 3 ≡ op r → Works b' register' n' m' (with_entries (tree_in b n m) (changed (stored r) (object_of r) (entries_from b 0 n))) → Works b' register' n' m' (effect r (tree_in b n m))
  unfolding effect with_entries tree_in
  effect_store h v = rw (← h) v

  pub effect_remove : 4 ≡ op r → Works b' register' n' m' (with_entries (tree_in b n m) (changed removed (object_of r) (entries_from b 0 n))) → Works b' register' n' m' (effect r (tree_in b n m))
  unfolding effect with_entries tree_in
  effect_remove h v = rw (← h) v

  pub effect_rename : 5 ≡ op r → Works b' register' n' m' (with_entries (tree_in b n m) (changed (renamed r) (object_of r) (entries_from b 0 n))) → Works b' register' n' m' (effect r (tree_in b n m))
  unfolding effect with_entries tree_in
  effect_rename h v = rw (← h) v

  pub effect_settle : 6 ≡ op r → Works b' register' n' m' (with_asides (tree_in b n m) (settled (object_of r) (asides_from b 0 m))) → Works b' register' n' m' (effect r (tree_in b n m))
  unfolding effect with_asides tree_in
  effect_settle h v = rw (← h) v

  pub effect_move : 7 ≡ op r → Works b' register' n' m' (with_entries (tree_in b n m) (changed (moved r) (object_of r) (entries_from b 0 n))) → Works b' register' n' m' (effect r (tree_in b n m))
  unfolding effect with_entries tree_in
  effect_move h v = rw (← h) v
