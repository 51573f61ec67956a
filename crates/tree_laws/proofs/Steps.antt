-- What one record does to the entries and the asides, and what a whole list of records leaves of each.
-- Assumes nothing.
use Prim.Native.Nat.{ℕ, ◌≤◌, ◌<◌}
use mathlib.Core.Path.{◌≡◌, refl, sym, ap, ◌∙◌}
use mathlib.Core.Bool.{Bool, true, false, cond, ◌&&◌}
use mathlib.Core.Logic.{⊎_elim}
use mathlib.Core.Option.{some}
use mathlib.Core.List.{List, [], ◌∷◌, ◌++◌, append_assoc, append-nil}
use lib.Dec.{leb, eqb}
use native.Mathlib.Omega.{arith}
use borrow.Author.Tests.{leb-true, leb-false, eqb-true, eqb-false, le-leb, lt-leb, ne_eqb}
use Rattle.byte_slice.proofs.Numbers.{bool_cases}
use Rattle.log_laws.proofs.Members.{All}
use Rattle.model.specs.Record.{Rec, op, self_of, object_of}
use Rattle.model.specs.Replay.{Entry, Aside, Tree, Verdict, fits, aside, is_present, entry_of, new_entry, stored, renamed, moved, removed, changed, settled, effect, apply, judge, step, replay_from, present_ones}
use Rattle.tree_laws.specs.Replayed.{makers, Standing, standings, standing, stand_aside, making, makes_fit}

-- ---- one record

pub cond_elim {ℓ κ} : {A : Type ℓ} (P : A → Type κ) (b : Bool) (x y : A) → (b ≡ true → P x) → (b ≡ false → P y) → P (cond b x y)
cond_elim P true x y p q = p refl
cond_elim P false x y p q = q refl

pub step_fits : (t : Tree) (r : Rec) → judge r t ≡ fits → step t r ≡ effect r t
unfolding step apply
step_fits t r e = rw e

pub step-aside : (t : Tree) (r : Rec) (n k : ℕ) → judge r t ≡ aside n k
    → step t r ≡ record { entries = t.entries; asides = t.asides ++ (record { who = self_of r; reason = n; marked = k; is_open = true } ∷ []) }
unfolding step apply
step-aside t r n k e = rw e

abbrev pub with_entries : List Entry → Tree → Tree
with_entries es t = record { entries = es; asides = t.asides }

-- the effect of a record, by operation
pub effect_elim {ℓ} : (P : Tree → Type ℓ) (r : Rec) (t : Tree)
    → (op r ≤ 2 → P (with_entries (t.entries ++ (new_entry r ∷ [])) t))
    → (op r ≡ 3 → P (with_entries (changed (stored r) (object_of r) t.entries) t))
    → (op r ≡ 4 → P (with_entries (changed removed (object_of r) t.entries) t))
    → (op r ≡ 5 → P (with_entries (changed (renamed r) (object_of r) t.entries) t))
    → (op r ≡ 6 → P (record { entries = t.entries; asides = settled (object_of r) t.asides }))
    → (6 < op r → P (with_entries (changed (moved r) (object_of r) t.entries) t))
    → P (effect r t)
unfolding effect
effect_elim P r t a b c d e f =
    let v₆ : Tree = with_entries (changed (moved r) (object_of r) t.entries) t in
    let s : Tree = record { entries = t.entries; asides = settled (object_of r) t.asides } in
    let v₅ : Tree = cond (eqb (op r) 6) s v₆ in
    let v₄ : Tree = cond (eqb (op r) 5) (with_entries (changed (renamed r) (object_of r) t.entries) t) v₅ in
    let v₃ : Tree = cond (eqb (op r) 4) (with_entries (changed removed (object_of r) t.entries) t) v₄ in
    let v₂ : Tree = cond (eqb (op r) 3) (with_entries (changed (stored r) (object_of r) t.entries) t) v₃ in
    cond_elim P (leb (op r) 2) (with_entries (t.entries ++ (new_entry r ∷ [])) t) v₂ (λ h. a (leb-true (op r) 2 h))
    (λ h₂. cond_elim P (eqb (op r) 3) (with_entries (changed (stored r) (object_of r) t.entries) t) v₃ (λ h. b (eqb-true (op r) 3 h))
    (λ h₃. cond_elim P (eqb (op r) 4) (with_entries (changed removed (object_of r) t.entries) t) v₄ (λ h. c (eqb-true (op r) 4 h))
    (λ h₄. cond_elim P (eqb (op r) 5) (with_entries (changed (renamed r) (object_of r) t.entries) t) v₅ (λ h. d (eqb-true (op r) 5 h))
    (λ h₅. cond_elim P (eqb (op r) 6) s v₆ (λ h. e (eqb-true (op r) 6 h))
    (λ h₆. f (omega (arith, leb-false (op r) 2 h₂, eqb-false (op r) 3 h₃, eqb-false (op r) 4 h₄, eqb-false (op r) 5 h₅, eqb-false (op r) 6 h₆)))))))

-- a fact of the next tree follows from the verdict's cases
pub step_elim {ℓ} : (P : Tree → Type ℓ) (t : Tree) (r : Rec)
    → (judge r t ≡ fits → P (effect r t))
    → ((n k : ℕ) → judge r t ≡ aside n k → P (record { entries = t.entries; asides = t.asides ++ (record { who = self_of r; reason = n; marked = k; is_open = true } ∷ []) }))
    → P (step t r)
unfolding step apply
step_elim P t r f g = go (judge r t) refl
  where
    go : (v : Verdict) → judge r t ≡ v → P (apply v r t)
    go fits e = f e
    go (aside n k) e = g n k e

-- ---- the asides

standings-append : (l m : List Aside) → standings (l ++ m) ≡ standings l ++ standings m
unfolding standings
standings-append [] m = refl
standings-append (a ∷ l) m = ap (λ (x : List Standing). (a.who, a.reason, a.marked) ∷ x) (standings-append l m)

standings-settled : (k : ℕ) (l : List Aside) → standings (settled k l) ≡ standings l
unfolding standings settled
standings-settled k [] = refl
standings-settled k (a ∷ l) =
    cond_elim (λ (x : List Aside). standings x ≡ (a.who, a.reason, a.marked) ∷ standings l) (eqb a.who k)
    (record { who = a.who; reason = a.reason; marked = a.marked; is_open = false } ∷ l) (a ∷ settled k l)
    (λ _. refl)
    (λ _. ap (λ (x : List Standing). (a.who, a.reason, a.marked) ∷ x) (standings-settled k l))

-- asides are only added, one for a record that stands aside
pub standings-step : (t : Tree) (r : Rec) → standings (step t r).asides ≡ standings t.asides ++ standing (judge r t) r
unfolding standings standing
standings-step t r =
    step_elim (λ (x : Tree). standings x.asides ≡ standings t.asides ++ standing (judge r t) r) t r
    (λ e. rw e (effect_elim (λ (x : Tree). standings x.asides ≡ standings t.asides ++ []) r t
    (λ _. sym (append-nil (standings t.asides)))
    (λ _. sym (append-nil (standings t.asides)))
    (λ _. sym (append-nil (standings t.asides)))
    (λ _. sym (append-nil (standings t.asides)))
    (λ _. standings-settled (object_of r) t.asides ∙ sym (append-nil (standings t.asides)))
    (λ _. sym (append-nil (standings t.asides)))))
    (λ n k e. rw e (standings-append t.asides (record { who = self_of r; reason = n; marked = k; is_open = true } ∷ [])))

pub standings-replay : (t : Tree) (l : List Rec) → standings (replay_from t l).asides ≡ standings t.asides ++ stand_aside t l
unfolding replay_from stand_aside
standings-replay t [] = sym (append-nil (standings t.asides))
standings-replay t (r ∷ l) =
    standings-replay (step t r) l
    ∙ ap (λ (x : List Standing). x ++ stand_aside (step t r) l) (standings-step t r)
    ∙ append_assoc (standings t.asides) (standing (judge r t) r) (stand_aside (step t r) l)

-- ---- the entries

pub makers-append : (l m : List Entry) → makers (l ++ m) ≡ makers l ++ makers m
unfolding makers
makers-append [] m = refl
makers-append (e ∷ l) m = ap (λ (x : List ℕ). e.made ∷ x) (makers-append l m)

pub makers-changed : (f : Entry → Entry) → ((e : Entry) → (f e).made ≡ e.made) → (k : ℕ) (l : List Entry) → makers (changed f k l) ≡ makers l
unfolding makers changed
makers-changed f h k [] = refl
makers-changed f h k (e ∷ l) =
    cond_elim (λ (x : List Entry). makers x ≡ e.made ∷ makers l) (eqb e.made k && is_present e) (f e ∷ l) (e ∷ changed f k l)
    (λ _. ap (λ (x : ℕ). x ∷ makers l) (h e))
    (λ _. ap (λ (x : List ℕ). e.made ∷ x) (makers-changed f h k l))

-- what holds of all entries, and of the changed one afterwards, holds of all afterwards
pub all_changed : (P : Entry → Type 0) (g : Entry → Entry) (k : ℕ) (es : List Entry) → ((e : Entry) → entry_of k es ≡ some e → P e → P (g e)) → All P es → All P (changed g k es)
unfolding changed entry_of
all_changed P g k [] h a = tt
all_changed P g k (e ∷ es) h a =
    ⊎_elim
    (λ (c : (eqb e.made k && is_present e) ≡ true). rw c (h e (rw c) a.0, a.1))
    (λ (c : (eqb e.made k && is_present e) ≡ false). rw c (a.0, all_changed P g k es (λ x q. h x (rw c q)) a.1))
    (bool_cases (eqb e.made k && is_present e))

pub all_present : (P : Entry → Type 0) (es : List Entry) → All P es → All P (present_ones es)
unfolding present_ones
all_present P [] a = tt
all_present P (e ∷ es) a =
    cond_elim (All P) (is_present e) (e ∷ present_ones es) (present_ones es) (λ _. (a.0, all_present P es a.1)) (λ _. all_present P es a.1)

-- entries are only added, one for a make that fits
pub makers-step : (t : Tree) (r : Rec) → makers (step t r).entries ≡ makers t.entries ++ making (judge r t) r
unfolding makers making new_entry stored removed renamed moved
makers-step t r =
    let es : List Entry = t.entries in
    step_elim (λ (x : Tree). makers x.entries ≡ makers es ++ making (judge r t) r) t r
    (λ e. rw e (effect_elim (λ (x : Tree). makers x.entries ≡ makers es ++ cond (leb (op r) 2) (self_of r ∷ []) []) r t
    (λ h. rw (le-leb (op r) 2 h) (makers-append es (new_entry r ∷ [])))
    (λ h. rw (lt-leb (op r) 2 (omega arith)) (makers-changed (stored r) (λ _. refl) (object_of r) es ∙ sym (append-nil (makers es))))
    (λ h. rw (lt-leb (op r) 2 (omega arith)) (makers-changed removed (λ _. refl) (object_of r) es ∙ sym (append-nil (makers es))))
    (λ h. rw (lt-leb (op r) 2 (omega arith)) (makers-changed (renamed r) (λ _. refl) (object_of r) es ∙ sym (append-nil (makers es))))
    (λ h. rw (lt-leb (op r) 2 (omega arith)) (sym (append-nil (makers es))))
    (λ h. rw (lt-leb (op r) 2 (omega arith)) (makers-changed (moved r) (λ _. refl) (object_of r) es ∙ sym (append-nil (makers es))))))
    (λ n k e. rw e (sym (append-nil (makers es))))

pub makers-replay : (t : Tree) (l : List Rec) → makers (replay_from t l).entries ≡ makers t.entries ++ makes_fit t l
unfolding replay_from makes_fit
makers-replay t [] = sym (append-nil (makers t.entries))
makers-replay t (r ∷ l) =
    makers-replay (step t r) l
    ∙ ap (λ (x : List ℕ). x ++ makes_fit (step t r) l) (makers-step t r)
    ∙ append_assoc (makers t.entries) (making (judge r t) r) (makes_fit (step t r) l)

-- ---- the effect, by operation

pub effect_make : (r : Rec) (t : Tree) → op r ≤ 2 → effect r t ≡ with_entries (t.entries ++ (new_entry r ∷ [])) t
unfolding effect
effect_make r t h = rw (le-leb (op r) 2 h)

pub effect_store : (r : Rec) (t : Tree) → op r ≡ 3 → effect r t ≡ with_entries (changed (stored r) (object_of r) t.entries) t
unfolding effect
effect_store r t e = rw e

pub effect_remove : (r : Rec) (t : Tree) → op r ≡ 4 → effect r t ≡ with_entries (changed removed (object_of r) t.entries) t
unfolding effect
effect_remove r t e = rw e

pub effect_rename : (r : Rec) (t : Tree) → op r ≡ 5 → effect r t ≡ with_entries (changed (renamed r) (object_of r) t.entries) t
unfolding effect
effect_rename r t e = rw e

pub effect_settle : (r : Rec) (t : Tree) → op r ≡ 6 → effect r t ≡ record { entries = t.entries; asides = settled (object_of r) t.asides }
unfolding effect
effect_settle r t e = rw e

pub effect_move : (r : Rec) (t : Tree) → 6 < op r → effect r t ≡ with_entries (changed (moved r) (object_of r) t.entries) t
unfolding effect
effect_move r t h =
    rw (lt-leb (op r) 2 (omega arith), ne_eqb (op r) 3 (λ e. omega arith), ne_eqb (op r) 4 (λ e. omega arith), ne_eqb (op r) 5 (λ e. omega arith), ne_eqb (op r) 6 (λ e. omega arith))
