-- What the functions that change a row are asked, over plain values.
-- Assumes nothing.
use Prim.Native.Nat.{ℕ, suc, ◌+◌, ◌-◌, ◌*◌, ◌≤◌, ◌<◌}
use native.Mathlib.Nat.{zero-add, sub-zero}
use native.Mathlib.Omega.{arith}
use mathlib.Core.Path.{◌≡◌, refl, sym, ap, ◌∙◌}
use mathlib.Core.Logic.{⊎_elim}
use mathlib.Core.Bool.{Bool, true, false, cond, ◌&&◌}
use mathlib.Core.Option.{none, some}
use mathlib.Core.List.{List, [], ◌∷◌}
use lib.Dec.{eqb}
use lib.ListN.{get_or, length, set, take, drop}
use borrow.Author.Tests.{eq-eqb, eqb-true}
use borrow.Rule.Slice.PartMut.{put_mid}
use Rattle.model.specs.Bytes.{part}
use Rattle.model.specs.Record.{Rec, op, object_of, folder_of, label_of}
use Rattle.model.specs.Replay.{Entry, is_present, is_in, entry_of, changed, settled, stored, renamed, moved, removed}
use Rattle.model.specs.Table.{entry_row, aside_row, entry_in}
use Rattle.byte_slice.proofs.Numbers.{and_true}
use Rattle.byte_slice.proofs.Parts.{part_is}
use Rattle.byte_slice.proofs.PutAt.{mid_put}
use Rattle.tree_table.specs.Rows.{entries_from, asides_from, tree_in, row_in, stored_row, renamed_row, moved_row, InRange, Proper}
use Rattle.tree_table.proofs.Rows.{row-length, aside_row_length}
use Rattle.tree_table.proofs.Fields.{settled_one, store_entry, rename_entry, move_entry, remove_entry, settle_aside, stored_proper, renamed_proper, moved_proper, removed_proper}
use Rattle.tree_lookup.specs.Roles.{row_from, row_of, note_of, role_of, Home, Works, Holds}
use Rattle.hash_chains.specs.Chains.{nodes_in, Chains}
use Rattle.tree_maps.specs.Keys.{register_size, folder_at, relabelled, left, shifted, Keyed}
use Rattle.tree_maps.proofs.Counts.{children_some, children_few, present_in}
use Rattle.tree_maps.proofs.Keeping.{keyed_same, keyed_relabelled, keyed_left, keyed_shifted, relabelled-before, relabelled-long, relabelled_nodes, left-before, left-long, left_nodes, shifted-before, shifted-long, shifted_nodes}
use Rattle.tree_lookup.proofs.Places.{row_lone, change_at, note_at, not_settled}
use Rattle.tree_lookup.proofs.Working.{blank_entry, blank_aside, proper_at, row-none, row_some, works_long, works_row, row_low, role_note, role_no_note}
use Rattle.tree_lookup.proofs.Homes.{place_folder, one_each, housed_at}
use Rattle.tree_judge.specs.Judged.{Asks}
use Rattle.tree_judge.proofs.Reasons.{object_range, move_names}
use Rattle.tree_amend.specs.Effects.{with_entries, with_asides, Takes}
use Rattle.tree_amend.specs.Registers.{shifted_on}
use Rattle.tree_amend.proofs.Changes.{works_part, works_part_aside, works_change, works_settle}

-- ---- an entry that is found, and its row

some_entry : (k : ℕ) (l : List Entry) (e : Entry) → entry_of k l ≡ some e → (e.made ≡ k) × (is_present e ≡ true)
unfolding entry_of
some_entry k [] e h = absurd (let z : ◌≡◌ {A = ℕ} 0 1 = cc in omega arith)
some_entry k (x ∷ l) e h = go (eqb x.made k && is_present x) refl h (some_entry k l e)
  where
    go : (t : Bool) → (eqb x.made k && is_present x) ≡ t → cond t (some x) (entry_of k l) ≡ some e
        → (entry_of k l ≡ some e → (e.made ≡ k) × (is_present e ≡ true)) → (e.made ≡ k) × (is_present e ≡ true)
    go true p q rest =
        let (a, c) = and_true (eqb x.made k) (is_present x) p in
        let i : x ≡ e = cc in
        (rw (← i) (eqb-true x.made k a), rw (← i) c)
    go false p q rest = rest q

no_entry_no_change : (f : Entry → Entry) (k : ℕ) (l : List Entry) → entry_of k l ≡ none → changed f k l ≡ l
unfolding entry_of changed
no_entry_no_change f k [] h = refl
no_entry_no_change f k (x ∷ l) h = go (eqb x.made k && is_present x) h (no_entry_no_change f k l)
  where
    go : (t : Bool) → cond t (some x) (entry_of k l) ≡ none → (entry_of k l ≡ none → changed f k l ≡ l) → cond t (f x ∷ l) (x ∷ changed f k l) ≡ x ∷ l
    go true q rest = absurd (let z : ◌≡◌ {A = ℕ} 0 1 = cc in omega arith)
    go false q rest = ap (λ (y : List Entry). x ∷ y) (rest q)

-- a change of entries, and what it does to their rows
pub record Writes (f : Entry → Entry) (g : List ℕ → List ℕ) : Type 0 where
  pub row : (e : Entry) → Proper e → g (entry_row 0 e) ≡ entry_row 0 (f e)
  pub made : (e : Entry) → (f e).made ≡ e.made
  pub fit : (e : Entry) → Proper e → Proper (f e)

module _ (b register : List ℕ) (n m : ℕ) (w : Holds b register n m) (k row : ℕ) (o : row_in b n row ≡ entry_of k (entries_from b 0 n)) where
  -- an absent object leaves all as it is
  pub nothing_changed : (f : Entry → Entry) → n ≤ row → Works b register n m (with_entries (tree_in b n m) (changed f k (entries_from b 0 n)))
  unfolding with_entries tree_in
  nothing_changed f h = rw (no_entry_no_change f k (entries_from b 0 n) (sym o ∙ row-none b n row h)) w

  -- the entry that is found
  here_is : row < n → get_or (entries_from b 0 n) row blank_entry ≡ entry_in b (4 + 72 * row)
  unfolding tree_in
  here_is h = works_row b register n m (tree_in b n m) w row blank_entry h

  here_some : row < n → ((get_or (entries_from b 0 n) row blank_entry).made ≡ k) × (is_present (get_or (entries_from b 0 n) row blank_entry) ≡ true)
  here_some h = rw (here_is h) (some_entry k (entries_from b 0 n) (entry_in b (4 + 72 * row)) (sym o ∙ row_some b n row h))

  pub row_present : row < n → is_present (entry_in b (4 + 72 * row)) ≡ true
  row_present h = (some_entry k (entries_from b 0 n) (entry_in b (4 + 72 * row)) (sym o ∙ row_some b n row h)).1

  here_low : row < n → row < length (entries_from b 0 n)
  unfolding tree_in
  here_low h = let rows = w.rows in omega arith

  pub row-changed : (f : Entry → Entry) (g : List ℕ → List ℕ) → Writes f g → row < n → (l : List ℕ)
      → Home (f (get_or (entries_from b 0 n) row blank_entry)).inside (entries_from b 0 n) → length l ≡ length register → ((s : ℕ) → s < 4097 → get_or l s 0 ≡ get_or register s 0)
      → Keyed l n (set (entries_from b 0 n) row (f (get_or (entries_from b 0 n) row blank_entry))) → (ys : List ℕ)
      → ys ≡ g (take (4 + 72 * row + 72 - (4 + 72 * row)) (drop (4 + 72 * row) b))
      → Works (put_mid (4 + 72 * row) (4 + 72 * row + 72 - (4 + 72 * row)) b ys) l n m (with_entries (tree_in b n m) (changed f k (entries_from b 0 n)))
  unfolding tree_in
  row-changed f g c h l home long low key ys y =
      let t = tree_in b n m in
      let es = entries_from b 0 n in
      let e = get_or es row blank_entry in
      let (p1, q1) = here_some h in
      let a = row_lone k 0 es row blank_entry w.lone (here_low h) p1 in
      let a1 : row_from k 0 es ≡ suc row = rw (zero-add row) at a in
      let x : changed f k es ≡ set es row (f e) = change_at f k es row blank_entry w.lone a1 ∙ rw q1 in
      let r = proper_at es row blank_entry (here_low h) w.proper in
      let s : part b (4 + 72 * row) 72 ≡ entry_row 0 e = works_part b register n m t w row h in
      let z : ys ≡ entry_row 0 (f e) = y ∙ rw (part_is b (4 + 72 * row) 72, s) (c.row e r) in
      let v = works_change b register n m t w row (f e) l h (c.made e) (c.fit e r) home long low key in
      rw (mid_put (4 + 72 * row) 72 b ys (ap (λ (l : List ℕ). length l) z ∙ row-length 0 (f e) (c.fit e r)), z, x) v

module _ (r : Rec) (long : length r ≡ 80) where
  pub stored_writes : Writes (stored r) (λ x. stored_row x r)
  unfolding stored
  stored_writes = record { row = λ e p. store_entry r long 0 e p; made = λ e. refl; fit = λ e p. stored_proper r long e p }

  pub renamed_writes : Writes (renamed r) (λ x. renamed_row x r)
  unfolding renamed
  renamed_writes = record { row = λ e p. rename_entry r long 0 e p; made = λ e. refl; fit = λ e p. renamed_proper r long e p }

  pub moved_writes : Writes (moved r) (λ x. moved_row x r)
  unfolding moved
  moved_writes = record { row = λ e p. move_entry r long 0 e p; made = λ e. refl; fit = λ e p. moved_proper r long e p }

pub removed_writes : Writes removed (λ x. set x 0 0)
unfolding removed
removed_writes = record { row = λ e p. remove_entry 0 e; made = λ e. refl; fit = λ e p. removed_proper e p }

-- ---- a settle

module _ (b register : List ℕ) (n m : ℕ) (w : Holds b register n m) (k role : ℕ) (e : role ≡ role_of k (tree_in b n m)) where
  none-settled : role ≤ 1024 → Works b register n m (with_asides (tree_in b n m) (settled k (asides_from b 0 m)))
  unfolding with_asides tree_in note_of
  none-settled h = rw (not_settled k 0 (asides_from b 0 m) (role_no_note b register n m (tree_in b n m) w k role e h)) w

  pub note_inside : 1024 < role → role - 1025 < m
  unfolding tree_in note_of
  note_inside h =
      let a = note_at k 0 (asides_from b 0 m) (role - 1025) blank_aside (role_note b register n m (tree_in b n m) w k role e h) in
      let notes = w.notes in
      omega (arith, a.inside)

  one_settled : 1024 < role → (ys : List ℕ)
      → ys ≡ set (take (73732 + 12 * (role - 1025) + 12 - (73732 + 12 * (role - 1025))) (drop (73732 + 12 * (role - 1025)) b)) 5 2
      → Works
      (put_mid (73732 + 12 * (role - 1025)) (73732 + 12 * (role - 1025) + 12 - (73732 + 12 * (role - 1025))) b ys)
      register
      n
      m
      (with_asides (tree_in b n m) (settled k (asides_from b 0 m)))
  unfolding tree_in note_of
  one_settled h ys y =
      let t = tree_in b n m in
      let l = asides_from b 0 m in
      let i = role - 1025 in
      let x = settled_one (get_or l i blank_aside) in
      let a = note_at k 0 l i blank_aside (role_note b register n m t w k role e h) in
      let a1 : settled k l ≡ set l i x = rw sub-zero at a.settles in
      let s : part b (73732 + 12 * i) 12 ≡ aside_row (get_or l i blank_aside) = works_part_aside b register n m t w i (note_inside h) in
      let z : ys ≡ aside_row x = y ∙ rw (part_is b (73732 + 12 * i) 12, s) (settle_aside (get_or l i blank_aside)) in
      let v = works_settle b register n m t w i (note_inside h) in
      rw (mid_put (73732 + 12 * i) 12 b ys (ap (λ (q : List ℕ). length q) z ∙ aside_row_length x), z, a1) v

  module _ (r : Rec) (g : k ≡ object_of r) where
    pub nothing_settled : role ≤ 1024 → Works b register n m (with_asides (tree_in b n m) (settled (object_of r) (asides_from b 0 m)))
    nothing_settled h = rw (← g) (none-settled h)

    pub aside-settled : 1024 < role → (ys : List ℕ)
        → ys ≡ set (take (73732 + 12 * (role - 1025) + 12 - (73732 + 12 * (role - 1025))) (drop (73732 + 12 * (role - 1025)) b)) 5 2
        → Works
        (put_mid (73732 + 12 * (role - 1025)) (73732 + 12 * (role - 1025) + 12 - (73732 + 12 * (role - 1025))) b ys)
        register
        n
        m
        (with_asides (tree_in b n m) (settled (object_of r) (asides_from b 0 m)))
    aside-settled h ys y = rw (← g) (one_settled h ys y)

-- ---- store, rename, remove and move

module _ (b register : List ℕ) (n m : ℕ) (w : Holds b register n m) (r : Rec) (h : Takes (tree_in b n m) r) (k row : ℕ) (p : k ≡ object_of r) (o : row_in b n row ≡ entry_of k (entries_from b 0 n)) where
  pub unchanged : (f : Entry → Entry) → n ≤ row → Works b register n m (with_entries (tree_in b n m) (changed f (object_of r) (entries_from b 0 n)))
  unchanged f g = rw (← p) (nothing_changed b register n m w k row o f g)

  pub store_done : row < n → (ys : List ℕ) → ys ≡ stored_row (take (4 + 72 * row + 72 - (4 + 72 * row)) (drop (4 + 72 * row) b)) r
      → Works
      (put_mid (4 + 72 * row) (4 + 72 * row + 72 - (4 + 72 * row)) b ys)
      register
      n
      m
      (with_entries (tree_in b n m) (changed (stored r) (object_of r) (entries_from b 0 n)))
  unfolding stored is_present tree_in
  store_done g ys y =
      let es = entries_from b 0 n in
      let e = get_or es row blank_entry in
      let key = keyed_same register n es w.keyed row (stored r e) blank_entry (here_low b register n m w k row o g) g refl refl refl refl in
      let home = housed_at es es row blank_entry (here_low b register n m w k row o g) w.housed in
      rw (← p) (row-changed b register n m w k row o (stored r) (λ x. stored_row x r) (stored_writes r h.asks.long) g register home refl (λ s _. refl) key ys y)

  module _ (f : ℕ) (old l : List ℕ) where
    pub rename_done : row < n → nodes_in 4097 register < 1536 → f ≡ (entry_in b (4 + 72 * row)).inside → l ≡ relabelled register f old (label_of r) row
        → (ys : List ℕ) → ys ≡ renamed_row (take (4 + 72 * row + 72 - (4 + 72 * row)) (drop (4 + 72 * row) b)) r
        → Works
        (put_mid (4 + 72 * row) (4 + 72 * row + 72 - (4 + 72 * row)) b ys)
        l
        n
        m
        (with_entries (tree_in b n m) (changed (renamed r) (object_of r) (entries_from b 0 n)))
    unfolding renamed is_present tree_in
    rename_done g nodes q x ys y =
        let es = entries_from b 0 n in
        let e = get_or es row blank_entry in
        let i : f ≡ e.inside = q ∙ ap (λ (z : Entry). z.inside) (sym (here_is b register n m w k row o g)) in
        let x1 : l ≡ relabelled register e.inside old (label_of r) row = rw i at x in
        let key = keyed_relabelled register n es w.keyed row (renamed r e) blank_entry old (here_low b register n m w k row o g) g refl refl refl nodes in
        let home = housed_at es es row blank_entry (here_low b register n m w k row o g) w.housed in
        rw (← p, x1)
        (row-changed b register n m w k row o (renamed r) (λ x. renamed_row x r) (renamed_writes r h.asks.long) g
        (relabelled register e.inside old (label_of r) row)
        home
        (relabelled-long register e.inside old (label_of r) row)
        (relabelled-before register e.inside old (label_of r) row)
        key ys y)

    pub rename_nodes : nodes_in 4097 register < 1536 → l ≡ relabelled register f old (label_of r) row → nodes_in 4097 l ≤ nodes_in 4097 register + 1
    rename_nodes nodes x = omega (arith, ap (λ (y : List ℕ). nodes_in 4097 y) x, relabelled_nodes register f old (label_of r) row w.keyed.chains nodes)

    pub remove_done : row < n → f ≡ (entry_in b (4 + 72 * row)).inside → (s : ℕ) → s ≡ row_of f (tree_in b n m) → s ≤ n → l ≡ left register s f old row
        → (ys : List ℕ) → ys ≡ set (take (4 + 72 * row + 72 - (4 + 72 * row)) (drop (4 + 72 * row) b)) 0 0
        → Works
        (put_mid (4 + 72 * row) (4 + 72 * row + 72 - (4 + 72 * row)) b ys)
        l
        n
        m
        (with_entries (tree_in b n m) (changed removed (object_of r) (entries_from b 0 n)))
    unfolding removed is_present tree_in row_of
    remove_done g q s si sl x ys y =
        let es = entries_from b 0 n in
        let e = get_or es row blank_entry in
        let i : f ≡ e.inside = q ∙ ap (λ (z : Entry). z.inside) (sym (here_is b register n m w k row o g)) in
        let low = here_low b register n m w k row o g in
        let home = housed_at es es row blank_entry low w.housed in
        let few = w.rows_fit_lem in
        let at : folder_at es s ≡ f = rw si (place_folder es w.proper f (rw i home)) in
        let key = keyed_left register n es w.keyed w.rows (one_each es w.proper w.lone) row (removed e) blank_entry low refl s f sl (omega arith) at old (here_some b register n m w k row o g).1 refl i in
        rw (← p, x)
        (row-changed b register n m w k row o removed (λ x. set x 0 0) removed_writes g (left register s f old row) home (left-long register s f old row) (left-before register s f old row) key ys y)

    pub remove_nodes : (s : ℕ) → l ≡ left register s f old row → nodes_in 4097 l ≤ nodes_in 4097 register + 1
    remove_nodes s x = omega (arith, ap (λ (y : List ℕ). nodes_in 4097 y) x, left_nodes register s f old row w.keyed.chains)

  module _ (l : List ℕ) (x : l ≡ shifted_on r (tree_in b n m) register (entry_in b (4 + 72 * row)) row) (nodes : nodes_in 4097 register < 1536) where
    pub move_done : row < n → Home (folder_of r) (entries_from b 0 n)
        → (ys : List ℕ) → ys ≡ moved_row (take (4 + 72 * row + 72 - (4 + 72 * row)) (drop (4 + 72 * row) b)) r
        → Works
        (put_mid (4 + 72 * row) (4 + 72 * row + 72 - (4 + 72 * row)) b ys)
        l
        n
        m
        (with_entries (tree_in b n m) (changed (moved r) (object_of r) (entries_from b 0 n)))
    unfolding moved removed is_present tree_in row_of shifted_on
    move_done g goes ys y =
        let t = tree_in b n m in
        let es = entries_from b 0 n in
        let e = get_or es row blank_entry in
        let here : is_present e ≡ true = (here_some b register n m w k row o g).1 in
        let low = here_low b register n m w k row o g in
        let f = (entry_in b (4 + 72 * row)).inside in
        let old = (entry_in b (4 + 72 * row)).label in
        let i : f ≡ e.inside = ap (λ (z : Entry). z.inside) (sym (here_is b register n m w k row o g)) in
        let home : Home f es = rw i (housed_at es es row blank_entry low w.housed) in
        let few = w.rows_fit_lem in
        let s = row_from f 0 es in
        let v = row_from (folder_of r) 0 es in
        let sl : s ≤ n = row_low b register n m t w f in
        let vl : v ≤ n = row_low b register n m t w (folder_of r) in
        let at : folder_at es s ≡ f = place_folder es w.proper f home in
        let to_at : folder_at es v ≡ folder_of r = place_folder es w.proper (folder_of r) goes in
        let key = keyed_shifted register n es w.keyed w.rows (one_each es w.proper w.lone) (omega arith) row (removed e) (moved r e) blank_entry g refl refl s f sl at v (folder_of r) vl to_at old here refl here i refl nodes in
        rw (← p, x)
        (row-changed b register n m w k row o (moved r) (λ z. moved_row z r) (moved_writes r h.asks.long) g
        (shifted register s f old v (folder_of r) (label_of r) row)
        goes
        (shifted-long register s f old v (folder_of r) (label_of r) row)
        (shifted-before register s f old v (folder_of r) (label_of r) row)
        key ys y)

    pub move_nodes : nodes_in 4097 l ≤ nodes_in 4097 register + 1
    unfolding shifted_on
    move_nodes =
        let e = entry_in b (4 + 72 * row) in
        let t = tree_in b n m in
        omega (arith, ap (λ (y : List ℕ). nodes_in 4097 y) x, shifted_nodes register (row_of e.inside t) e.inside e.label (row_of (folder_of r) t) (folder_of r) (label_of r) row w.keyed.chains nodes)

-- ---- rows lie within the table

module _ (b register : List ℕ) (n m : ℕ) (w : Holds b register n m) where
  pub row_end : (row : ℕ) → row < n → 4 + 72 * row + 72 ≤ length b
  row_end row h =
      let f = w.rows_fit_lem in
      omega (arith, works_long b register n m (tree_in b n m) w)

  pub label_end : (row : ℕ) → row < n → 4 + 72 * row + 56 ≤ length b
  label_end row h = omega (arith, row_end row h)

  -- the register is asked to let an entry leave its folder
  pub leave_counts : (row : ℕ) → row < n → is_present (entry_in b (4 + 72 * row)) ≡ true → (f p : ℕ) → f ≡ (entry_in b (4 + 72 * row)).inside → p ≡ row_of f (tree_in b n m) → p ≤ n
      → 1 ≤ get_or register (8194 + p) 0
  unfolding tree_in row_of
  leave_counts row h here f p q r low =
      let es = entries_from b 0 n in
      let e = get_or es row blank_entry in
      let rows = w.rows in
      let is : e ≡ entry_in b (4 + 72 * row) = works_row b register n m (tree_in b n m) w row blank_entry h in
      let at : e.inside ≡ f = ap (λ (x : Entry). x.inside) is ∙ sym q in
      let i : is_in f e ≡ true = present_in f e (rw is here) ∙ eq-eqb e.inside f at in
      let c = children_some f es row blank_entry (omega arith) i in
      let home : Home f es = rw at at (housed_at es es row blank_entry (omega arith) w.housed) in
      let k : folder_at es p ≡ f = rw r (place_folder es w.proper f home) in
      let d = rw k at (w.keyed.counted p low) in
      omega arith

  pub shift_counts : (p : ℕ) → p ≤ n → get_or register (8194 + p) 0 ≤ 1024
  unfolding tree_in
  shift_counts p h =
      let rows = w.rows in
      let fit = w.rows_fit_lem in
      omega (arith, w.keyed.counted p h, children_few (folder_at (entries_from b 0 n) p) (entries_from b 0 n))

  pub works_chains : Chains 4097 register
  works_chains = w.keyed.chains

  pub works_wide : length register ≡ register_size
  works_wide = w.keyed.wide

-- ---- what a move names

pub moved_object : (r : Rec) (k : ℕ) → Asks r → op r ≡ 7 → k ≡ object_of r → InRange k
moved_object r k a h e = object_range r k a (omega arith) e

pub moved_folder : (r : Rec) → Asks r → op r ≡ 7 → folder_of r < 524288
moved_folder r a h =
    ⊎_elim (λ (q : folder_of r ≡ 0). omega arith) (λ (q : InRange (folder_of r)). let z = q.high in omega arith) (move_names r (folder_of r) a h refl)
