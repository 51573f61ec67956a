-- Each way out of a judgement: the tests on the way, and the reason and mark that they lead to.
-- Assumes nothing.
use Prim.Native.Nat.{ℕ, ◌+◌, ◌-◌, ◌*◌, ◌≤◌, ◌<◌}
use native.Mathlib.Numerals.{add-one}
use native.Mathlib.Omega.{arith}
use mathlib.Core.Path.{◌≡◌, refl, sym, ap, ◌∙◌}
use mathlib.Core.Logic.{◌⊎◌, ⊎_elim}
use mathlib.Core.Bool.{Bool, true, false, cond, not, ◌&&◌, ◌||◌}
use mathlib.Core.Option.{Option, none, some}
use mathlib.Core.List.{List}
use lib.Dec.{ltb, eqb}
use lib.ListN.{get_or}
use borrow.Author.Tests.{eq-eqb, ne_eqb, lt-ltb, le-ltb, le-leb, ltb-true, ltb-false, not-true, not-false}
use Rattle.model.specs.Record.{Rec, op, object_of, folder_of, label_of, uses_folder}
use Rattle.model.specs.Replay.{Entry, Verdict, fits, aside, entry_of, holder_of, has_entries, stands_aside, unseen, free_label, and_then, is_folder, folder_stands, is_below, judge_place, judge_make, judge_store, judge_remove, judge_rename, judge_move, judge_settle, judge, reason_of}
use Rattle.model.specs.Table.{entry_in}
use Rattle.record_uses.specs.declared.Operation.{Operation}
use Rattle.record_uses.specs.declared.Operation.TheVariants.{MakeFolder, MakeTrace}
use Rattle.record_uses.specs.Operations.{number_of}
use Rattle.tree_table.specs.Rows.{entries_from, asides_from, row_in, tree_in, InRange}
use Rattle.tree_lookup.specs.Roles.{note_of, role_of, Holds}
use Rattle.tree_maps.specs.Keys.{children_of, folder_at}
use Rattle.tree_lookup.proofs.Places.{stands, stands_not}
use Rattle.tree_maps.proofs.Counts.{has_children, folder_row}
use Rattle.tree_lookup.proofs.Working.{blank_entry, works_row, row-none, row_some, role_note, role_no_note}
use Rattle.byte_slice.proofs.Numbers.{bool_cases}
use Rattle.tree_judge.specs.Judged.{verdict_of, full_by, Asks}
use Rattle.tree_judge.proofs.Verdicts.{verdict_numbers}

-- ---- a label

module _ (b : List ℕ) (n row : ℕ) (o : Option Entry) (e : row_in b n row ≡ o) where
  pub label_held_lem : row < n → (k : ℕ) → k ≡ (entry_in b (4 + 72 * row)).made → verdict_of 15 k ≡ free_label o
  unfolding verdict_of free_label
  label_held_lem h k q = rw (← e, row_some b n row h, q)

  pub label_free : n ≤ row → verdict_of 0 0 ≡ free_label o
  unfolding verdict_of free_label
  label_free h = rw (← e, row-none b n row h)

-- ---- a folder

module _ (b : List ℕ) (n f : ℕ) where
  pub folder_root : f ≡ 0 → verdict_of 0 0 ≡ folder_stands f (entries_from b 0 n)
  unfolding verdict_of folder_stands
  folder_root z = rw (eq-eqb f 0 z)

  module _ (row : ℕ) (z : f ≡ 0 → ⊥) (o : row_in b n row ≡ entry_of f (entries_from b 0 n)) where
    pub folder_absent : n ≤ row → verdict_of 13 0 ≡ folder_stands f (entries_from b 0 n)
    unfolding verdict_of folder_stands is_folder
    folder_absent h = rw (ne_eqb f 0 z, ← o, row-none b n row h)

    module _ (h : row < n) (x : Bool) (p : x ≡ eqb (entry_in b (4 + 72 * row)).kind 1) where
      pub folder_trace : (k : ℕ) → not x ≡ true → k ≡ (entry_in b (4 + 72 * row)).made → verdict_of 14 k ≡ folder_stands f (entries_from b 0 n)
      unfolding verdict_of folder_stands is_folder
      folder_trace k q s = rw (ne_eqb f 0 z, ← o, row_some b n row h, ← p, not-true x q, s)

      pub folder_found : not x ≡ false → verdict_of 0 0 ≡ folder_stands f (entries_from b 0 n)
      unfolding verdict_of folder_stands is_folder
      folder_found q = rw (ne_eqb f 0 z, ← o, row_some b n row h, ← p, not-false x q)

-- a verdict that is a reason stops, one that fits goes on
module _ (n k : ℕ) (x : Verdict) (e : verdict_of n k ≡ x) where
  then_stops : (n ≡ 0 → ⊥) → (v : Verdict) → verdict_of n k ≡ and_then x v
  unfolding verdict_of and_then
  then_stops h v = rw (← e, ne_eqb n 0 h)

-- no folder is refused under the reason 0
stands_zero : (f : ℕ) (es : List Entry) → reason_of (folder_stands f es) ≡ 0 → folder_stands f es ≡ fits
unfolding folder_stands is_folder reason_of
stands_zero f es h =
    ⊎_elim
    (λ (c : eqb f 0 ≡ true). rw c)
    (λ (c : eqb f 0 ≡ false). rw c (found (entry_of f es) (rw c at h)))
    (bool_cases (eqb f 0))
  where
    found : (o : Option Entry) → reason_of (is_folder o) ≡ 0 → is_folder o ≡ fits
    found none z = absurd (omega arith)
    found (some g) z =
        ⊎_elim
        (λ (c : eqb g.kind 1 ≡ true). rw c)
        (λ (c : eqb g.kind 1 ≡ false). absurd (let y : ◌≡◌ {A = ℕ} 14 0 = rw c at z in omega arith))
        (bool_cases (eqb g.kind 1))

then_goes : (n k f : ℕ) (es : List Entry) → verdict_of n k ≡ folder_stands f es → n ≡ 0 → (v : Verdict) → v ≡ and_then (folder_stands f es) v
unfolding and_then
then_goes n k f es e h v = rw (stands_zero f es (sym (verdict_numbers n k (folder_stands f es) e).0 ∙ h))

-- ---- make

pub make_names : (r : Rec) (f : ℕ) → Asks r → op r ≤ 2 → f ≡ folder_of r → (f ≡ 0) ⊎ InRange f
unfolding uses_folder
make_names r f a h e = rw e (a.folder (rw (le-leb (op r) 2 h)))

module _ (r : Rec) (es : List Entry) (f : ℕ) (e : f ≡ folder_of r) (n k : ℕ) (s : verdict_of n k ≡ folder_stands f es) where
  pub make_stops : (n ≡ 0 → ⊥) → verdict_of n k ≡ judge_make r es
  unfolding judge_make
  make_stops h = rw (← e) (then_stops n k (folder_stands f es) s h (free_label (holder_of 0 f (label_of r) es)))

  pub make_goes : n ≡ 0 → (v : Verdict) → v ≡ free_label (holder_of 0 f (label_of r) es) → v ≡ judge_make r es
  unfolding judge_make
  make_goes h v q = q ∙ rw (← e) (then_goes n k f es s h (free_label (holder_of 0 f (label_of r) es)))

-- ---- store, remove and rename of the entry in a row

module _ (r : Rec) (b : List ℕ) (n row : ℕ) where
  pub store_absent : n ≤ row → verdict_of 12 0 ≡ judge_store r (row_in b n row)
  unfolding verdict_of judge_store
  store_absent h = rw (row-none b n row h)

  pub store_folder : row < n → (x : Bool) (k : ℕ) → k ≡ (entry_in b (4 + 72 * row)).made → x ≡ eqb (entry_in b (4 + 72 * row)).kind 1 → x ≡ true → verdict_of 14 k ≡ judge_store r (row_in b n row)
  unfolding verdict_of judge_store
  store_folder h x k s p q = rw (row_some b n row h, ← p, q, s)

  module _ (h : row < n) (x : Bool) (k y : ℕ) (s : k ≡ (entry_in b (4 + 72 * row)).made) (p : x ≡ eqb (entry_in b (4 + 72 * row)).kind 1) (q : x ≡ false) (c : y ≡ (entry_in b (4 + 72 * row)).contents) (t : Bool) (u : t ≡ unseen r y) where
    pub store_unseen : t ≡ true → verdict_of 17 k ≡ judge_store r (row_in b n row)
    unfolding verdict_of judge_store
    store_unseen g = rw (row_some b n row h, ← p, q, ← c, ← u, g, s)

    pub store_fits : t ≡ false → verdict_of 0 0 ≡ judge_store r (row_in b n row)
    unfolding verdict_of judge_store
    store_fits g = rw (row_some b n row h, ← p, q, ← c, ← u, g)

  pub remove_absent : (es : List Entry) → n ≤ row → verdict_of 12 0 ≡ judge_remove r es (row_in b n row)
  unfolding verdict_of judge_remove
  remove_absent es h = rw (row-none b n row h)

  module _ (l : List ℕ) (m : ℕ) (w : Holds b l n m) (h : row < n) (k : ℕ) (s : k ≡ (entry_in b (4 + 72 * row)).made) (t : Bool) (g : t ≡ full_by l row (entry_in b (4 + 72 * row))) where
    full_means : t ≡ (eqb (entry_in b (4 + 72 * row)).kind 1 && has_entries (entry_in b (4 + 72 * row)).made (entries_from b 0 n))
    unfolding full_by tree_in
    full_means =
        let es = entries_from b 0 n in
        let e = (entry_in b (4 + 72 * row)).made in
        let at : folder_at es (row + 1) ≡ e =
        rw (add-one row) (folder_row es row blank_entry (omega (arith, w.rows)) ∙ ap (λ (x : Entry). x.made) (works_row b l n m (tree_in b n m) w row blank_entry h)) in
        let c : get_or l (8194 + (row + 1)) 0 ≡ children_of e es = rw at at (w.keyed.counted (row + 1) (omega arith)) in
        rw (has_children e es, ← c) g

    pub remove_full : t ≡ true → verdict_of 16 k ≡ judge_remove r (entries_from b 0 n) (row_in b n row)
    unfolding verdict_of judge_remove
    remove_full q = rw (row_some b n row h, ← full_means, q, s)

    module _ (q : t ≡ false) (c : Bool) (v : c ≡ (unseen r (entry_in b (4 + 72 * row)).contents || unseen r (entry_in b (4 + 72 * row)).placing)) where
      pub remove_unseen : c ≡ true → verdict_of 17 k ≡ judge_remove r (entries_from b 0 n) (row_in b n row)
      unfolding verdict_of judge_remove
      remove_unseen x = rw (row_some b n row h, ← full_means, q, ← v, x, s)

      pub remove_fits : c ≡ false → verdict_of 0 0 ≡ judge_remove r (entries_from b 0 n) (row_in b n row)
      unfolding verdict_of judge_remove
      remove_fits x = rw (row_some b n row h, ← full_means, q, ← v, x)

  module _ (es : List Entry) where
    pub rename_absent : n ≤ row → verdict_of 12 0 ≡ judge_rename r es (row_in b n row)
    unfolding verdict_of judge_rename
    rename_absent h = rw (row-none b n row h)

    module _ (h : row < n) (y : ℕ) (c : y ≡ (entry_in b (4 + 72 * row)).placing) (t : Bool) (u : t ≡ unseen r y) where
      pub rename_unseen : (k : ℕ) → k ≡ (entry_in b (4 + 72 * row)).made → t ≡ true → verdict_of 17 k ≡ judge_rename r es (row_in b n row)
      unfolding verdict_of judge_rename
      rename_unseen k s g = rw (row_some b n row h, ← c, ← u, g, s)

      pub rename_label : (k f : ℕ) (v : Verdict) → k ≡ (entry_in b (4 + 72 * row)).made → f ≡ (entry_in b (4 + 72 * row)).inside → t ≡ false → v ≡ free_label (holder_of k f (label_of r) es) → v ≡ judge_rename r es (row_in b n row)
      unfolding judge_rename
      rename_label k f v p s g q = rw (row_some b n row h, ← c, ← u, g, ← p, ← s) q

-- ---- move of the entry in a row

pub move_names : (r : Rec) (f : ℕ) → Asks r → op r ≡ 7 → f ≡ folder_of r → (f ≡ 0) ⊎ InRange f
unfolding uses_folder
move_names r f a h e = rw e (a.folder (rw h))

module _ (r : Rec) (b : List ℕ) (n row : ℕ) (es : List Entry) where
  pub move_absent : n ≤ row → verdict_of 12 0 ≡ judge_move r es (row_in b n row)
  unfolding verdict_of judge_move
  move_absent h = rw (row-none b n row h)

  module _ (h : row < n) (y k : ℕ) (p : k ≡ (entry_in b (4 + 72 * row)).made) (c : y ≡ (entry_in b (4 + 72 * row)).placing) (t : Bool) (u : t ≡ unseen r y) where
    pub move_unseen : t ≡ true → verdict_of 17 k ≡ judge_move r es (row_in b n row)
    unfolding verdict_of judge_move
    move_unseen g = rw (row_some b n row h, ← c, ← u, g, p)

    module _ (g : t ≡ false) (f x j : ℕ) (e : f ≡ folder_of r) (s : verdict_of x j ≡ folder_stands f es) where
      move_in_lem : judge_move r es (row_in b n row) ≡ and_then (folder_stands f es) (judge_place r es (entry_in b (4 + 72 * row)))
      unfolding judge_move
      move_in_lem = rw (row_some b n row h, ← c, ← u, g, ← e)

      pub move_stops : (x ≡ 0 → ⊥) → verdict_of x j ≡ judge_move r es (row_in b n row)
      move_stops z = rw move_in_lem (then_stops x j (folder_stands f es) s z (judge_place r es (entry_in b (4 + 72 * row))))

      module _ (z : x ≡ 0) (q : Bool) (i : q ≡ is_below k f es) where
        placed : judge_place r es (entry_in b (4 + 72 * row)) ≡ judge_move r es (row_in b n row)
        placed = rw move_in_lem (then_goes x j f es s z (judge_place r es (entry_in b (4 + 72 * row))))

        pub move_below : q ≡ true → verdict_of 25 k ≡ judge_move r es (row_in b n row)
        unfolding verdict_of judge_place
        move_below d = rw (← placed, ← p, ← e, ← i, d)

        pub move_label : (v : Verdict) → q ≡ false → v ≡ free_label (holder_of k f (label_of r) es) → v ≡ judge_move r es (row_in b n row)
        unfolding judge_place
        move_label v d a = a ∙ rw (← placed, ← p, ← e, ← i, d)

module _ (e : Entry) (l : List ℕ) (row : ℕ) where
  pub full_no : {x : Bool} → x ≡ eqb e.kind 1 → x ≡ false → x ≡ full_by l row e
  unfolding full_by
  full_no p q = rw (← p, q)

  pub full_if : {x : Bool} (c : ℕ) → x ≡ eqb e.kind 1 → x ≡ true → c ≡ get_or l (8194 + (row + 1)) 0 → not (eqb c 0) ≡ full_by l row e
  unfolding full_by
  full_if c p q u = rw (← p, q, u)

-- ---- settle

module _ (role x : ℕ) (e : role ≡ x) where
  pub settle_stands : 1024 < role → verdict_of 0 0 ≡ cond (ltb 1024 x) fits (aside 18 0)
  unfolding verdict_of
  settle_stands h = rw (lt-ltb 1024 x (rw e at h))

  pub settle_not : role ≤ 1024 → verdict_of 18 0 ≡ cond (ltb 1024 x) fits (aside 18 0)
  unfolding verdict_of
  settle_not h = rw (le-ltb 1024 x (rw e at h))

stands_role : (b register : List ℕ) (n m : ℕ) → Holds b register n m → (k : ℕ) → stands_aside k (asides_from b 0 m) ≡ ltb 1024 (role_of k (tree_in b n m))
unfolding note_of tree_in
stands_role b register n m w k = go (ltb 1024 role) refl
  where
    role : ℕ
    role = role_of k (tree_in b n m)

    go : (t : Bool) → ltb 1024 role ≡ t → stands_aside k (asides_from b 0 m) ≡ t
    go true e = stands k 0 (asides_from b 0 m) (role - 1025) (role_note b register n m (tree_in b n m) w k role refl (ltb-true 1024 role e))
    go false e = stands_not k 0 (asides_from b 0 m) (role_no_note b register n m (tree_in b n m) w k role refl (ltb-false 1024 role e))

-- ---- any operation

pub object_range : (r : Rec) (k : ℕ) → Asks r → 2 < op r → k ≡ object_of r → InRange k
object_range r k a h e = rw e (a.object h)

-- a make has one of the first two numbers
pub is_make : (r : Rec) (o : Operation) → number_of o ≡ op r → (o ≡ MakeFolder) ⊎ (o ≡ MakeTrace) → op r ≤ 2
is_make r o e h =
    ⊎_elim (λ (z : o ≡ MakeFolder). let f = rw z at e in omega arith) (λ (z : o ≡ MakeTrace). let f = rw z at e in omega arith) h

module _ (r : Rec) (b : List ℕ) (n m : ℕ) (v : Verdict) where
  pub judged_make : op r ≤ 2 → v ≡ judge_make r (entries_from b 0 n) → v ≡ judge r (tree_in b n m)
  unfolding judge tree_in
  judged_make h e = rw (le-leb (op r) 2 h) e

  module _ (row : ℕ) (o : row_in b n row ≡ entry_of (object_of r) (entries_from b 0 n)) where
    pub judged_store : 3 ≡ op r → v ≡ judge_store r (row_in b n row) → v ≡ judge r (tree_in b n m)
    unfolding judge tree_in
    judged_store h e = rw (← h, ← o) e

    pub judged_remove : 4 ≡ op r → v ≡ judge_remove r (entries_from b 0 n) (row_in b n row) → v ≡ judge r (tree_in b n m)
    unfolding judge tree_in
    judged_remove h e = rw (← h, ← o) e

    pub judged_rename : 5 ≡ op r → v ≡ judge_rename r (entries_from b 0 n) (row_in b n row) → v ≡ judge r (tree_in b n m)
    unfolding judge tree_in
    judged_rename h e = rw (← h, ← o) e

    pub judged_move : 7 ≡ op r → v ≡ judge_move r (entries_from b 0 n) (row_in b n row) → v ≡ judge r (tree_in b n m)
    unfolding judge tree_in
    judged_move h e = rw (← h, ← o) e

  pub judged_settle : (register : List ℕ) (k : ℕ) → Holds b register n m → k ≡ object_of r → 6 ≡ op r
      → v ≡ cond (ltb 1024 (role_of k (tree_in b n m))) fits (aside 18 0) → v ≡ judge r (tree_in b n m)
  unfolding judge tree_in judge_settle
  judged_settle register k w p h e = rw (← h, ← p, stands_role b register n m w k) e
