-- The folders of entries: their places, and that a new entry is the folder of none.
-- Assumes nothing.
use Prim.Native.Nat.{ℕ, zero, suc, ◌≤◌, ◌<◌}
use native.Mathlib.Nat.{sub-zero}
use native.Mathlib.Omega.{arith}
use mathlib.Core.Path.{◌≡◌, refl, sym, ◌∙◌}
use mathlib.Core.Logic.{inl, inr, ⊎_elim}
use mathlib.Core.Bool.{Bool, true, not}
use mathlib.Core.List.{List, [], ◌∷◌, ◌++◌}
use lib.ListN.{get_or, length, set}
use borrow.Author.Tests.{ne_eqb, not-true}
use Rattle.model.specs.Replay.{Entry, is_present, is_in}
use Rattle.byte_slice.proofs.Numbers.{and_wrong, not_both, lt_or_ge}
use Rattle.tree_table.specs.Rows.{tree_in, InRange, AllProper}
use Rattle.tree_maps.specs.Keys.{is_identity, children_of, folder_at, OneEach}
use Rattle.tree_maps.proofs.Counts.{range-identity, folder_row}
use Rattle.tree_lookup.specs.Roles.{row_from, row_of, role_of, Absent, Lone, Home, Housed, Holds}
use Rattle.tree_lookup.proofs.Places.{absent_row, row-at, row_lone, row_more}
use Rattle.tree_lookup.proofs.Working.{blank_entry, proper_at, role_row, role_no_row}

-- what is no identity has no row
pub no_row : (f : ℕ) (l : List Entry) → AllProper l → (InRange f → ⊥) → Absent f l
no_row f [] p h = tt
no_row f (e ∷ l) p h = (λ (z : e.made ≡ f). h (rw z at p.0.range), no_row f l p.1 h)

-- ---- places

module _ (es : List Entry) (fit : AllProper es) where
  pub place_folder : (f : ℕ) → Home f es → folder_at es (row_from f 0 es) ≡ f
  unfolding folder_at
  place_folder f h =
      ⊎_elim
      (λ (z : f ≡ 0).
      let a : row_from f 0 es ≡ 0 = absent_row f 0 es (no_row f es fit (λ r. let l = r.low in omega arith)) in
      rw a (sym z))
      (λ (z : 1 ≤ row_from f 0 es). go (row_from f 0 es) refl z)
      h
    where
      go : (r : ℕ) → row_from f 0 es ≡ r → 1 ≤ r → folder_at es r ≡ f
      go zero e z = absurd (omega arith)
      go (suc j) e z =
          let a = row-at f 0 es j blank_entry e in
          folder_row es j blank_entry (rw sub-zero at a.inside) ∙ (rw sub-zero at a.is)

  pub one_each : Lone es → OneEach es
  unfolding folder_at
  one_each lone zero zero a b e = refl
  one_each lone zero (suc j) a b e =
      let m = folder_row es j blank_entry (omega arith) in
      let l = (proper_at es j blank_entry (omega arith) fit).range.low in
      absurd (omega arith)
  one_each lone (suc i) zero a b e =
      let m = folder_row es i blank_entry (omega arith) in
      let l = (proper_at es i blank_entry (omega arith) fit).range.low in
      absurd (omega arith)
  one_each lone (suc i) (suc j) a b e =
      let k = (get_or es j blank_entry).made in
      let m = folder_row es i blank_entry (omega arith) in
      let o = folder_row es j blank_entry (omega arith) in
      let x : (get_or es i blank_entry).made ≡ k = sym m ∙ e ∙ o in
      let r = row_lone k 0 es i blank_entry lone (omega arith) x in
      let s = row_lone k 0 es j blank_entry lone (omega arith) refl in
      omega arith

-- ---- a new entry has no entries

none_inside : (k : ℕ) (es l : List Entry) → 8 ≤ k → row_from k 0 es ≡ 0 → Housed es l → children_of k l ≡ 0
unfolding children_of is_in
none_inside k es [] low fresh h = refl
none_inside k es (e ∷ l) low fresh h =
    let other : e.inside ≡ k → ⊥ =
    λ (z : e.inside ≡ k). ⊎_elim (λ (y : e.inside ≡ 0). omega arith) (λ (y : 1 ≤ row_from e.inside 0 es). let x = rw z at y in omega arith) h.0 in
    rw (ne_eqb e.inside k other, and_wrong (is_present e)) (none_inside k es l low fresh h.1)

pub new_empty : (k : ℕ) (es : List Entry) → 8 ≤ k → row_from k 0 es ≡ 0 → Housed es es → children_of k es ≡ 0
new_empty k es low fresh h = none_inside k es es low fresh h

pub home_other : (k f : ℕ) (es : List Entry) → 8 ≤ k → row_from k 0 es ≡ 0 → Home f es → f ≡ k → ⊥
home_other k f es low fresh h z =
    ⊎_elim (λ (y : f ≡ 0). omega arith) (λ (y : 1 ≤ row_from f 0 es). let x = rw z at y in omega arith) h

-- ---- as entries come and change

pub housed_map : (a b l : List Entry) → ((k : ℕ) → 1 ≤ row_from k 0 a → 1 ≤ row_from k 0 b) → Housed a l → Housed b l
housed_map a b [] g h = tt
housed_map a b (e ∷ l) g h = (⊎_elim (λ (y : e.inside ≡ 0). inl y) (λ (y : 1 ≤ row_from e.inside 0 a). inr (g e.inside y)) h.0, housed_map a b l g h.1)

pub housed_set : (a l : List Entry) (i : ℕ) (e : Entry) → Home e.inside a → Housed a l → Housed a (set l i e)
housed_set a [] i e p h = tt
housed_set a (x ∷ l) zero e p h = (p, h.1)
housed_set a (x ∷ l) (suc i) e p h = (h.0, housed_set a l i e p h.1)

pub housed_at : (a l : List Entry) (i : ℕ) (d : Entry) → i < length l → Housed a l → Home (get_or l i d).inside a
housed_at a [] i d g h = absurd (omega arith)
housed_at a (x ∷ l) zero d g h = h.0
housed_at a (x ∷ l) (suc i) d g h = housed_at a l i d (omega arith) h.1

housed_more : (a l : List Entry) (e : Entry) → Home e.inside a → Housed a l → Housed a (l ++ (e ∷ []))
housed_more a [] e p h = (p, tt)
housed_more a (x ∷ l) e p h = (h.0, housed_more a l e p h.1)

row-longer : (k : ℕ) (l : List Entry) (e : Entry) → row_from e.made 0 l ≡ 0 → 1 ≤ row_from k 0 l → 1 ≤ row_from k 0 (l ++ (e ∷ []))
row-longer k l e fresh h = rw (row_more k 0 l e (λ (z : e.made ≡ k). let y = rw z at fresh in omega arith)) h

pub housed_new : (l : List Entry) (e : Entry) → row_from e.made 0 l ≡ 0 → Home e.inside l → Housed l l → Housed (l ++ (e ∷ [])) (l ++ (e ∷ []))
housed_new l e fresh p h = housed_map l (l ++ (e ∷ [])) (l ++ (e ∷ [])) (λ k g. row-longer k l e fresh g) (housed_more l l e p h)

-- ---- what `place_of` is asked, over plain values

module _ (b register : List ℕ) (n m : ℕ) (w : Holds b register n m) (f : ℕ) where
  pub place_none : (s : Bool) → s ≡ is_identity f → not s ≡ true → 0 ≡ row_of f (tree_in b n m)
  unfolding row_of
  place_none s e h =
      sym (absent_row f 0 (tree_in b n m).entries (no_row f (tree_in b n m).entries w.proper (λ r. not_both (is_identity f) (range-identity f r) (sym e ∙ not-true s h))))

  module _ (role : ℕ) (e : role ≡ role_of f (tree_in b n m)) where
    pub place_aside : n < role → 0 ≡ row_of f (tree_in b n m)
    place_aside h = sym (role_no_row b register n m (tree_in b n m) w f role e (inr h))

    pub place_row : role ≤ n → role ≡ row_of f (tree_in b n m)
    place_row h =
        ⊎_elim (λ (z : 0 < role). sym (role_row b register n m (tree_in b n m) w f role e z h))
        (λ (z : role ≤ 0). let y : role ≡ 0 = omega arith in y ∙ sym (role_no_row b register n m (tree_in b n m) w f role e (inl y)))
        (lt_or_ge 0 role)
