-- What one record changes of lengths and roles, and the table after it.
-- Assumes nothing.
use Prim.Native.Nat.{ℕ, suc, ◌+◌, ◌≤◌}
use native.Mathlib.Omega.{arith}
use mathlib.Core.Path.{◌≡◌, refl, ap}
use mathlib.Core.Logic.{◌⊎◌}
use mathlib.Core.Bool.{true, false, ◌&&◌}
use mathlib.Core.List.{List, [], ◌∷◌, ◌++◌}
use lib.Dec.{eqb}
use lib.ListN.{length, length-append}
use borrow.Author.Tests.{ne_eqb}
use Rattle.model.specs.Record.{Rec, self_of, object_of}
use Rattle.model.specs.Replay.{Entry, Aside, Tree, fits, aside, is_present, changed, settled, new_entry, stored, renamed, moved, removed, judge, effect, apply, step}
use Rattle.tree_laws.proofs.Steps.{cond_elim, effect_elim, step_elim}
use Rattle.tree_table.specs.Rows.{tree_in, entries_from, asides_from, new_aside, InRange}
use Rattle.tree_lookup.specs.Roles.{row_from, note_from, row_of, note_of, role_of, Works, Holds}
use Rattle.tree_lookup.proofs.Places.{row_more, note_more}
use Rattle.tree_judge.specs.Judged.{verdict_of}
use Rattle.tree_amend.specs.Effects.{with_asides, Placed}
use Rattle.tree_replay.proofs.Fitting.{judged_fits, fits_placed}
use Rattle.tree_replay.proofs.Marks.{marked_fits}

-- ---- changes keep places and lengths

abbrev Keeps : (Entry → Entry) → Type 0
Keeps f = (e : Entry) → (f e).made ≡ e.made

row-changed : (f : Entry → Entry) → Keeps f → (k i j : ℕ) (l : List Entry) → row_from k i (changed f j l) ≡ row_from k i l
unfolding row_from changed
row-changed f h k i j [] = refl
row-changed f h k i j (e ∷ l) =
    cond_elim (λ (x : List Entry). row_from k i x ≡ row_from k i (e ∷ l)) (eqb e.made j && is_present e) (f e ∷ l) (e ∷ changed f j l)
    (λ _. rw (h e)) (λ _. rw (row-changed f h k (suc i) j l))

note_settled : (k i j : ℕ) (l : List Aside) → note_from k i (settled j l) ≡ note_from k i l
unfolding note_from settled
note_settled k i j [] = refl
note_settled k i j (a ∷ l) =
    cond_elim (λ (x : List Aside). note_from k i x ≡ note_from k i (a ∷ l)) (eqb a.who j)
    (record { who = a.who; reason = a.reason; marked = a.marked; is_open = false } ∷ l) (a ∷ settled j l) (λ _. refl)
    (λ _. rw (note_settled k (suc i) j l))

length-changed : (f : Entry → Entry) (k : ℕ) (l : List Entry) → length (changed f k l) ≡ length l
unfolding changed
length-changed f k [] = refl
length-changed f k (e ∷ l) =
    cond_elim (λ (x : List Entry). length x ≡ suc (length l)) (eqb e.made k && is_present e) (f e ∷ l) (e ∷ changed f k l) (λ _. refl)
    (λ _. ap suc (length-changed f k l))

length-settled : (k : ℕ) (l : List Aside) → length (settled k l) ≡ length l
unfolding settled
length-settled k [] = refl
length-settled k (a ∷ l) =
    cond_elim (λ (x : List Aside). length x ≡ suc (length l)) (eqb a.who k)
    (record { who = a.who; reason = a.reason; marked = a.marked; is_open = false } ∷ l) (a ∷ settled k l) (λ _. refl) (λ _. ap suc (length-settled k l))

-- ---- one record makes at most one row, and gives a role to no identity but its own

abbrev pub Grows : Tree → Tree → Type 0
Grows t u = (length u.entries ≤ suc (length t.entries)) × (length u.asides ≤ suc (length t.asides))

pub step_grows : (t : Tree) (r : Rec) → Grows t (step t r)
step_grows t r =
    let es = t.entries in
    let l = t.asides in
    step_elim (λ (u : Tree). Grows t u) t r
    (λ _.
    effect_elim (λ (u : Tree). Grows t u) r t (λ _. (omega (arith, length-append es (new_entry r ∷ [])), omega arith))
    (λ _. (omega (arith, length-changed (stored r) (object_of r) es), omega arith)) (λ _. (omega (arith, length-changed removed (object_of r) es), omega arith))
    (λ _. (omega (arith, length-changed (renamed r) (object_of r) es), omega arith)) (λ _. (omega arith, omega (arith, length-settled (object_of r) l)))
    (λ _. (omega (arith, length-changed (moved r) (object_of r) es), omega arith)))
    (λ n k _. (omega arith, omega (arith, length-append l (record { who = self_of r; reason = n; marked = k; is_open = true } ∷ []))))

-- of entries and asides together it makes at most one
pub step_more : (t : Tree) (r : Rec) → length (step t r).entries + length (step t r).asides ≤ suc (length t.entries + length t.asides)
step_more t r =
    let es = t.entries in
    let l = t.asides in
    step_elim (λ (u : Tree). length u.entries + length u.asides ≤ suc (length es + length l)) t r
    (λ _.
    effect_elim (λ (u : Tree). length u.entries + length u.asides ≤ suc (length es + length l)) r t (λ _. omega (arith, length-append es (new_entry r ∷ []))) (λ _. omega (arith, length-changed (stored r) (object_of r) es))
    (λ _. omega (arith, length-changed removed (object_of r) es)) (λ _. omega (arith, length-changed (renamed r) (object_of r) es))
    (λ _. omega (arith, length-settled (object_of r) l)) (λ _. omega (arith, length-changed (moved r) (object_of r) es)))
    (λ n k _. omega (arith, length-append l (record { who = self_of r; reason = n; marked = k; is_open = true } ∷ [])))

same_role : (k : ℕ) (t u : Tree) → row_of k u ≡ row_of k t → note_of k u ≡ note_of k t → role_of k u ≡ role_of k t
unfolding role_of
same_role k t u p q = rw (p, q)

pub step_role : (k : ℕ) (t : Tree) (r : Rec) → (self_of r ≡ k → ⊥) → role_of k (step t r) ≡ role_of k t
unfolding row_of note_of stored removed renamed moved new_entry
step_role k t r h =
    let es = t.entries in
    let l = t.asides in
    step_elim (λ (u : Tree). role_of k u ≡ role_of k t) t r
    (λ _.
    effect_elim (λ (u : Tree). role_of k u ≡ role_of k t) r t (λ _. same_role k t _ (row_more k 0 es (new_entry r) h) refl)
    (λ _. same_role k t _ (row-changed (stored r) (λ e. refl) k 0 (object_of r) es) refl)
    (λ _. same_role k t _ (row-changed removed (λ e. refl) k 0 (object_of r) es) refl)
    (λ _. same_role k t _ (row-changed (renamed r) (λ e. refl) k 0 (object_of r) es) refl)
    (λ _. same_role k t _ refl (note_settled k 0 (object_of r) l))
    (λ _. same_role k t _ (row-changed (moved r) (λ e. refl) k 0 (object_of r) es) refl))
    (λ n m _. same_role k t _ refl (note_more k 0 l (record { who = self_of r; reason = n; marked = m; is_open = true }) h))

-- ---- what `step` is asked, over plain values

module _ (b register : List ℕ) (n m : ℕ) (r : Rec) (x k : ℕ) (e : verdict_of x k ≡ judge r (tree_in b n m)) where
  pub mark_fits_lem : Holds b register n m → (x ≡ 0 → ⊥) → (k ≡ 0) ⊎ InRange k
  mark_fits_lem w h = marked_fits r (tree_in b n m) x k w.proper e h

  pub step-placed : x ≡ 0 → Placed r (entries_from b 0 n)
  unfolding tree_in
  step-placed h = fits_placed r (tree_in b n m) (judged_fits r (tree_in b n m) x k e h)

  module _ (b' register' : List ℕ) (n' m' : ℕ) where
    pub step_acts : x ≡ 0 → Works b' register' n' m' (effect r (tree_in b n m)) → Works b' register' n' m' (step (tree_in b n m) r)
    unfolding step apply
    step_acts h w =
        let q : fits ≡ judge r (tree_in b n m) = judged_fits r (tree_in b n m) x k e h in
        rw (← q) w

    pub step_stands : (x ≡ 0 → ⊥) → Works b' register' n' m' (with_asides (tree_in b n m) (asides_from b 0 m ++ (new_aside (self_of r) x k ∷ [])))
        → Works b' register' n' m' (step (tree_in b n m) r)
    unfolding step verdict_of apply with_asides new_aside tree_in
    step_stands h w =
        let q : aside x k ≡ judge r (tree_in b n m) = rw (ne_eqb x 0 h) at e in
        rw (← q) w
