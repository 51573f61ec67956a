-- Where an identity stands among entries and among asides.
-- Assumes nothing.
use Prim.Native.Nat.{ℕ, zero, suc, ◌+◌, ◌-◌, ◌≤◌, ◌<◌}
use native.Mathlib.Nat.{add-zero, sub-zero}
use native.Mathlib.Omega.{arith}
use mathlib.Core.Path.{◌≡◌, refl, sym, ap, ◌∙◌}
use mathlib.Core.Logic.{⊎_elim}
use mathlib.Core.Bool.{Bool, true, false, cond}
use mathlib.Core.Option.{Option, none, some}
use mathlib.Core.List.{List, [], ◌∷◌, ◌++◌}
use lib.ListN.{get_or, length, set}
use borrow.Author.Tests.{eq-eqb, ne_eqb}
use Rattle.model.specs.Replay.{Entry, Aside, is_present, entry_of, stands_aside, changed, settled}
use Rattle.byte_slice.proofs.Numbers.{eq_or_ne}
use Rattle.tree_table.proofs.Fields.{settled_one}
use Rattle.tree_lookup.specs.Roles.{row_from, note_from, Absent, Lone}

-- ---- one element

row_here : (k i : ℕ) (e : Entry) (l : List Entry) → e.made ≡ k → row_from k i (e ∷ l) ≡ suc i
unfolding row_from
row_here k i e l h = rw (eq-eqb e.made k h)

row_later : (k i : ℕ) (e : Entry) (l : List Entry) → (e.made ≡ k → ⊥) → row_from k i (e ∷ l) ≡ row_from k (suc i) l
unfolding row_from
row_later k i e l h = rw (ne_eqb e.made k h)

note_here : (k i : ℕ) (a : Aside) (l : List Aside) → a.who ≡ k → note_from k i (a ∷ l) ≡ suc i
unfolding note_from
note_here k i a l h = rw (eq-eqb a.who k h)

note_later : (k i : ℕ) (a : Aside) (l : List Aside) → (a.who ≡ k → ⊥) → note_from k i (a ∷ l) ≡ note_from k (suc i) l
unfolding note_from
note_later k i a l h = rw (ne_eqb a.who k h)

-- ---- an entry that is nowhere

pub absent_row : (k i : ℕ) (l : List Entry) → Absent k l → row_from k i l ≡ 0
unfolding row_from
absent_row k i [] h = refl
absent_row k i (e ∷ l) h = row_later k i e l h.0 ∙ absent_row k (suc i) l h.1

pub row_absent : (k i : ℕ) (l : List Entry) → row_from k i l ≡ 0 → Absent k l
row_absent k i [] h = tt
row_absent k i (e ∷ l) h =
    ⊎_elim (λ (q : e.made ≡ k). absurd (let z = sym (row_here k i e l q) ∙ h in omega arith))
    (λ (q : e.made ≡ k → ⊥). (q, row_absent k (suc i) l (sym (row_later k i e l q) ∙ h)))
    (eq_or_ne e.made k)

absent_entry : (k : ℕ) (l : List Entry) → Absent k l → entry_of k l ≡ none
unfolding entry_of
absent_entry k [] h = refl
absent_entry k (e ∷ l) h = rw (ne_eqb e.made k h.0) (absent_entry k l h.1)

absent_changed : (f : Entry → Entry) (k : ℕ) (l : List Entry) → Absent k l → changed f k l ≡ l
unfolding changed
absent_changed f k [] h = refl
absent_changed f k (e ∷ l) h = rw (ne_eqb e.made k h.0) (ap (λ (x : List Entry). e ∷ x) (absent_changed f k l h.1))

pub no_entry : (k : ℕ) (l : List Entry) → row_from k 0 l ≡ 0 → entry_of k l ≡ none
no_entry k l h = absent_entry k l (row_absent k 0 l h)

-- ---- an entry in a row

pub record At (k i : ℕ) (l : List Entry) (j : ℕ) (d : Entry) : Type 0 where
  pub from : i ≤ j
  pub inside : j - i < length l
  pub is : (get_or l (j - i) d).made ≡ k

pub row-at : (k i : ℕ) (l : List Entry) (j : ℕ) (d : Entry) → row_from k i l ≡ suc j → At k i l j d
unfolding row_from
row-at k i [] j d h = absurd (omega arith)
row-at k i (e ∷ l) j d h =
    ⊎_elim
    (λ (q : e.made ≡ k).
    let z : suc i ≡ suc j = sym (row_here k i e l q) ∙ h in
    let y : j - i ≡ 0 = omega arith in
    record { from = omega arith; inside = omega arith; is = rw y q })
    (λ (q : e.made ≡ k → ⊥).
    let r = row-at k (suc i) l j d (sym (row_later k i e l q) ∙ h) in
    let y : j - i ≡ suc (j - suc i) = omega (arith, r.from) in
    record { from = omega (arith, r.from); inside = omega (arith, r.inside); is = rw y r.is })
    (eq_or_ne e.made k)

-- no entry of a list is absent from it, and an entry is in one row only
pub absent_at : (k : ℕ) (l : List Entry) (j : ℕ) (d : Entry) → Absent k l → j < length l → (get_or l j d).made ≡ k → ⊥
absent_at k [] j d u h q = absurd (omega arith)
absent_at k (e ∷ l) zero d u h q = u.0 q
absent_at k (e ∷ l) (suc j) d u h q = absent_at k l j d u.1 (omega arith) q

pub row_lone : (k i : ℕ) (l : List Entry) (j : ℕ) (d : Entry) → Lone l → j < length l → (get_or l j d).made ≡ k → row_from k i l ≡ suc (i + j)
unfolding row_from
row_lone k i [] j d u h q = absurd (omega arith)
row_lone k i (e ∷ l) zero d u h q = rw (eq-eqb e.made k q) (omega arith)
row_lone k i (e ∷ l) (suc j) d u h q =
    rw (ne_eqb e.made k (λ (z : e.made ≡ k). absent_at e.made l j d u.0 (omega arith) (q ∙ sym z)))
    (row_lone k (suc i) l j d u.1 (omega arith) q ∙ omega arith)

-- the entry of a row, if it is present
abbrev pub if_present : Entry → Option Entry
if_present e = cond (is_present e) (some e) none

entry_from : (k i : ℕ) (l : List Entry) (j : ℕ) (d : Entry) → Lone l → row_from k i l ≡ suc j → entry_of k l ≡ if_present (get_or l (j - i) d)
unfolding row_from entry_of
entry_from k i [] j d u h = absurd (omega arith)
entry_from k i (e ∷ l) j d u h =
    ⊎_elim
    (λ (q : e.made ≡ k).
    let z : suc i ≡ suc j = sym (row_here k i e l q) ∙ h in
    let y : j - i ≡ 0 = omega arith in
    let w : entry_of k l ≡ none = rw q at (absent_entry e.made l u.0) in
    rw (eq-eqb e.made k q, y, w))
    (λ (q : e.made ≡ k → ⊥).
    let g = sym (row_later k i e l q) ∙ h in
    let r = row-at k (suc i) l j d g in
    let y : j - i ≡ suc (j - suc i) = omega (arith, r.from) in
    rw (ne_eqb e.made k q, y) (entry_from k (suc i) l j d u.1 g))
    (eq_or_ne e.made k)

pub entry_at : (k : ℕ) (l : List Entry) (j : ℕ) (d : Entry) → Lone l → row_from k 0 l ≡ suc j → entry_of k l ≡ if_present (get_or l j d)
entry_at k l j d u h = rw sub-zero at (entry_from k 0 l j d u h)

-- a change of a row, if it is present
abbrev pub if_changed : (Entry → Entry) → List Entry → ℕ → Entry → List Entry
if_changed f l j e = cond (is_present e) (set l j (f e)) l

cons_if : (f : Entry → Entry) (x : Entry) (l : List Entry) (j : ℕ) (e : Entry) → x ∷ if_changed f l j e ≡ if_changed f (x ∷ l) (suc j) e
cons_if f x l j e = go (is_present e)
  where
    go : (b : Bool) → x ∷ cond b (set l j (f e)) l ≡ cond b (x ∷ set l j (f e)) (x ∷ l)
    go true = refl
    go false = refl

change_from : (f : Entry → Entry) (k i : ℕ) (l : List Entry) (j : ℕ) (d : Entry) → Lone l → row_from k i l ≡ suc j
    → changed f k l ≡ if_changed f l (j - i) (get_or l (j - i) d)
unfolding row_from changed
change_from f k i [] j d u h = absurd (omega arith)
change_from f k i (e ∷ l) j d u h =
    ⊎_elim
    (λ (q : e.made ≡ k).
    let z : suc i ≡ suc j = sym (row_here k i e l q) ∙ h in
    let y : j - i ≡ 0 = omega arith in
    let w : changed f k l ≡ l = rw q at (absent_changed f e.made l u.0) in
    rw (eq-eqb e.made k q, y, w))
    (λ (q : e.made ≡ k → ⊥).
    let g = sym (row_later k i e l q) ∙ h in
    let r = row-at k (suc i) l j d g in
    let y : j - i ≡ suc (j - suc i) = omega (arith, r.from) in
    rw (ne_eqb e.made k q, y) (ap (λ (x : List Entry). e ∷ x) (change_from f k (suc i) l j d u.1 g) ∙ cons_if f e l (j - suc i) (get_or l (j - suc i) d)))
    (eq_or_ne e.made k)

pub change_at : (f : Entry → Entry) (k : ℕ) (l : List Entry) (j : ℕ) (d : Entry) → Lone l → row_from k 0 l ≡ suc j
    → changed f k l ≡ if_changed f l j (get_or l j d)
change_at f k l j d u h = rw sub-zero at (change_from f k 0 l j d u h)

-- ---- asides

pub stands_not : (k i : ℕ) (l : List Aside) → note_from k i l ≡ 0 → stands_aside k l ≡ false
unfolding note_from stands_aside
stands_not k i [] h = refl
stands_not k i (a ∷ l) h =
    ⊎_elim (λ (q : a.who ≡ k). absurd (let z = sym (note_here k i a l q) ∙ h in omega arith))
    (λ (q : a.who ≡ k → ⊥). rw (ne_eqb a.who k q) (stands_not k (suc i) l (sym (note_later k i a l q) ∙ h)))
    (eq_or_ne a.who k)

pub stands : (k i : ℕ) (l : List Aside) (j : ℕ) → note_from k i l ≡ suc j → stands_aside k l ≡ true
unfolding note_from stands_aside
stands k i [] j h = absurd (omega arith)
stands k i (a ∷ l) j h =
    ⊎_elim (λ (q : a.who ≡ k). rw (eq-eqb a.who k q))
    (λ (q : a.who ≡ k → ⊥). rw (ne_eqb a.who k q) (stands k (suc i) l j (sym (note_later k i a l q) ∙ h)))
    (eq_or_ne a.who k)

pub not_settled : (k i : ℕ) (l : List Aside) → note_from k i l ≡ 0 → settled k l ≡ l
unfolding note_from settled
not_settled k i [] h = refl
not_settled k i (a ∷ l) h =
    ⊎_elim (λ (q : a.who ≡ k). absurd (let z = sym (note_here k i a l q) ∙ h in omega arith))
    (λ (q : a.who ≡ k → ⊥).
    rw (ne_eqb a.who k q) (ap (λ (x : List Aside). a ∷ x) (not_settled k (suc i) l (sym (note_later k i a l q) ∙ h))))
    (eq_or_ne a.who k)

pub record NoteAt (k i : ℕ) (l : List Aside) (j : ℕ) (d : Aside) : Type 0 where
  pub from : i ≤ j
  pub inside : j - i < length l
  pub settles : settled k l ≡ set l (j - i) (settled_one (get_or l (j - i) d))

pub note_at : (k i : ℕ) (l : List Aside) (j : ℕ) (d : Aside) → note_from k i l ≡ suc j → NoteAt k i l j d
unfolding note_from settled
note_at k i [] j d h = absurd (omega arith)
note_at k i (a ∷ l) j d h =
    ⊎_elim
    (λ (q : a.who ≡ k).
    let z : suc i ≡ suc j = sym (note_here k i a l q) ∙ h in
    let y : j - i ≡ 0 = omega arith in
    record { from = omega arith; inside = omega arith; settles = rw (eq-eqb a.who k q, y) })
    (λ (q : a.who ≡ k → ⊥).
    let r = note_at k (suc i) l j d (sym (note_later k i a l q) ∙ h) in
    let y : j - i ≡ suc (j - suc i) = omega (arith, r.from) in
    record {
      from = omega (arith, r.from);
      inside = omega (arith, r.inside);
      settles = rw (ne_eqb a.who k q, y) (ap (λ (x : List Aside). a ∷ x) r.settles);
    })
    (eq_or_ne a.who k)

-- ---- after a change that keeps the identities, and with one more

pub row-set : (k i : ℕ) (l : List Entry) (j : ℕ) (e d : Entry) → e.made ≡ (get_or l j d).made → row_from k i (set l j e) ≡ row_from k i l
unfolding row_from
row-set k i [] j e d h = refl
row-set k i (x ∷ l) zero e d h = rw h
row-set k i (x ∷ l) (suc j) e d h = rw (row-set k (suc i) l j e d h)

pub note_set : (k i : ℕ) (l : List Aside) (j : ℕ) (a d : Aside) → a.who ≡ (get_or l j d).who → note_from k i (set l j a) ≡ note_from k i l
unfolding note_from
note_set k i [] j a d h = refl
note_set k i (x ∷ l) zero a d h = rw h
note_set k i (x ∷ l) (suc j) a d h = rw (note_set k (suc i) l j a d h)

pub row_more : (k i : ℕ) (l : List Entry) (e : Entry) → (e.made ≡ k → ⊥) → row_from k i (l ++ (e ∷ [])) ≡ row_from k i l
unfolding row_from
row_more k i [] e h = rw (ne_eqb e.made k h)
row_more k i (x ∷ l) e h = rw (row_more k (suc i) l e h)

pub row_new : (k i : ℕ) (l : List Entry) (e : Entry) → row_from k i l ≡ 0 → e.made ≡ k → row_from k i (l ++ (e ∷ [])) ≡ suc (i + length l)
unfolding row_from
row_new k i [] e u h = rw (eq-eqb e.made k h, add-zero)
row_new k i (x ∷ l) e u h =
    ⊎_elim (λ (q : x.made ≡ k). absurd (let z = sym (row_here k i x l q) ∙ u in omega arith))
    (λ (q : x.made ≡ k → ⊥).
    let r = row_new k (suc i) l e (sym (row_later k i x l q) ∙ u) h in
    rw (ne_eqb x.made k q) (r ∙ omega arith))
    (eq_or_ne x.made k)

pub note_more : (k i : ℕ) (l : List Aside) (a : Aside) → (a.who ≡ k → ⊥) → note_from k i (l ++ (a ∷ [])) ≡ note_from k i l
unfolding note_from
note_more k i [] a h = rw (ne_eqb a.who k h)
note_more k i (x ∷ l) a h = rw (note_more k (suc i) l a h)

pub note_new : (k i : ℕ) (l : List Aside) (a : Aside) → note_from k i l ≡ 0 → a.who ≡ k → note_from k i (l ++ (a ∷ [])) ≡ suc (i + length l)
unfolding note_from
note_new k i [] a u h = rw (eq-eqb a.who k h, add-zero)
note_new k i (x ∷ l) a u h =
    ⊎_elim (λ (q : x.who ≡ k). absurd (let z = sym (note_here k i x l q) ∙ u in omega arith))
    (λ (q : x.who ≡ k → ⊥).
    let r = note_new k (suc i) l a (sym (note_later k i x l q) ∙ u) h in
    rw (ne_eqb x.who k q) (r ∙ omega arith))
    (eq_or_ne x.who k)

absent_set : (k : ℕ) (l : List Entry) (j : ℕ) (e d : Entry) → e.made ≡ (get_or l j d).made → Absent k l → Absent k (set l j e)
absent_set k l j e d h u = row_absent k 0 (set l j e) (row-set k 0 l j e d h ∙ absent_row k 0 l u)

pub lone_set : (l : List Entry) (j : ℕ) (e d : Entry) → e.made ≡ (get_or l j d).made → Lone l → Lone (set l j e)
lone_set [] j e d h u = tt
lone_set (x ∷ l) zero e d h u = (rw h u.0, u.1)
lone_set (x ∷ l) (suc j) e d h u = (absent_set x.made l j e d h u.0, lone_set l j e d h u.1)

absent_more : (k : ℕ) (l : List Entry) (e : Entry) → (e.made ≡ k → ⊥) → Absent k l → Absent k (l ++ (e ∷ []))
absent_more k [] e h u = (h, tt)
absent_more k (x ∷ l) e h u = (u.0, absent_more k l e h u.1)

pub lone_more : (l : List Entry) (e : Entry) → Absent e.made l → Lone l → Lone (l ++ (e ∷ []))
lone_more [] e h u = (tt, tt)
lone_more (x ∷ l) e h u = (absent_more x.made l e (λ (q : e.made ≡ x.made). h.0 (sym q)) u.0, lone_more l e h.1 u.1)
