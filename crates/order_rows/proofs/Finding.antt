-- Rows looked for by their keys: where no key comes twice, each of one list is one of another exactly if the one row with its key is.
-- Assumes nothing.
use Prim.Native.Nat.{ℕ, zero, suc, ◌-◌, ◌≤◌, ◌<◌}
use native.Mathlib.Omega.{arith}
use mathlib.Core.Path.{◌≡◌, refl, sym, ap, ◌∙◌}
use mathlib.Core.Logic.{inl, inr, ⊎_elim}
use mathlib.Core.Bool.{Bool, true, false, not, ◌&&◌}
use mathlib.Core.List.{List, [], ◌∷◌}
use lib.Dec.{eqb}
use lib.ListN.{get_or, length}
use borrow.Author.Tests.{eq-eqb, ne_eqb, eqb-true, not-true}
use Rattle.model.specs.Log.{all_to}
use Rattle.base_model.specs.Base.{last_to}
use Rattle.byte_slice.proofs.Numbers.{lt_or_ge, bool_cases, not_both, and_true, true_and}
use Rattle.log_laws.proofs.Tests.{all_to-at, all_to_all}
use Rattle.base_links.proofs.Links.{last_le, last_passes}
use Rattle.tree_laws.specs.Replayed.{Has}

-- ---- members by their places

pub has_at : {A : Type 0} (l : List A) (d : A) (i : ℕ) → i < length l → Has (get_or l i d) l
has_at [] d i h = absurd (omega arith)
has_at (x ∷ l) d zero h = inl refl
has_at (x ∷ l) d (suc i) h = inr (has_at l d i (omega arith))

pub at_has : {A : Type 0} (l : List A) (d x : A) → Has x l → (i : ℕ) × (i < length l) × (get_or l i d ≡ x)
at_has [] d x h = absurd h
at_has (y ∷ l) d x (inl q) = (0, omega arith, sym q)
at_has (y ∷ l) d x (inr h) = let (i, a, q) = at_has l d x h in (suc i, omega arith, q)

-- ---- the last that passes

none-at : (p : ℕ → Bool) (i : ℕ) → last_to p i ≡ 0 → (j : ℕ) → j < i → p j ≡ true → ⊥
unfolding last_to
none-at p zero e j h t = omega arith
none-at p (suc i) e j h t =
    ⊎_elim
    (λ (x : p i ≡ true). let z : suc i ≡ 0 = (rw x at e) in omega arith)
    (λ (x : p i ≡ false).
    ⊎_elim
    (λ (k : j < i). none-at p i (rw x at e) j k t)
    (λ k. let w : j ≡ i = omega arith in not_both (p i) (rw w at t) x)
    (lt_or_ge j i))
    (bool_cases (p i))

-- ---- looking for the rows of one list in another

module _ {A : Type 0} (xs ys : List A) (d : A) (key : A → ℕ) (alike : A → A → Bool) (keys : (x y : A) → alike x y ≡ true → key x ≡ key y)
    (lone : (i j : ℕ) → i < length ys → j < length ys → key (get_or ys i d) ≡ key (get_or ys j d) → i ≡ j)
    (test : ℕ → ℕ → Bool) (row : ℕ → ℕ → Bool)
    (tests : (i j : ℕ) → i < length xs → j < length ys → test i j ≡ eqb (key (get_or ys j d)) (key (get_or xs i d)))
    (rows : (i j : ℕ) → i < length xs → j < length ys → row i j ≡ alike (get_or xs i d) (get_or ys j d)) where
  -- one above the row, or 0
  abbrev place : ℕ → ℕ
  place i = last_to (test i) (length ys)

  abbrev shown : ℕ → Bool
  shown i = not (eqb (place i) 0) && row i (place i - 1)

  one_to : (i : ℕ) → i < length xs → shown i ≡ true → (y : A) × Has y ys × (alike (get_or xs i d) y ≡ true)
  one_to i h e =
      let (a, b) = and_true (not (eqb (place i) 0)) (row i (place i - 1)) e in
      let z : place i ≡ 0 → ⊥ = λ q. not_both (eqb (place i) 0) (eq-eqb (place i) 0 q) (not-true (eqb (place i) 0) a) in
      let l : place i - 1 < length ys = omega (arith, last_le (test i) (length ys), z) in
      (get_or ys (place i - 1) d, has_at ys d (place i - 1) l, sym (rows i (place i - 1) h l) ∙ b)

  one_from : (i : ℕ) → i < length xs → (y : A) → Has y ys → alike (get_or xs i d) y ≡ true → shown i ≡ true
  one_from i h y k e =
      let (j, l, q) = at_has ys d y k in
      let w : key (get_or xs i d) ≡ key (get_or ys j d) = keys (get_or xs i d) y e ∙ ap key (sym q) in
      let t : test i j ≡ true = tests i j h l ∙ eq-eqb (key (get_or ys j d)) (key (get_or xs i d)) (sym w) in
      let z : 0 < place i = ⊎_elim (λ (v : 0 < place i). v) (λ (v : place i ≤ 0). absurd (none-at (test i) (length ys) (omega arith) j l t)) (lt_or_ge 0 (place i)) in
      let m : place i - 1 < length ys = omega (arith, last_le (test i) (length ys)) in
      let p : key (get_or ys (place i - 1) d) ≡ key (get_or xs i d) =
      eqb-true (key (get_or ys (place i - 1) d)) (key (get_or xs i d)) (sym (tests i (place i - 1) h m) ∙ last_passes (test i) (length ys) z) in
      let s : place i - 1 ≡ j = lone (place i - 1) j m l (p ∙ w) in
      let r : row i (place i - 1) ≡ true = rw s (rows i j h l ∙ ap (alike (get_or xs i d)) q ∙ e) in
      true_and (not (eqb (place i) 0)) (row i (place i - 1)) (ap not (ne_eqb (place i) 0 (λ v. omega arith))) r

  pub found_in : all_to (length xs) (λ i. not (eqb (last_to (test i) (length ys)) 0) && row i (last_to (test i) (length ys) - 1)) ≡ true
      → (x : A) → Has x xs → (y : A) × Has y ys × (alike x y ≡ true)
  found_in e x k =
      let (i, l, q) = at_has xs d x k in
      let (y, m, r) = one_to i l (all_to-at (length xs) shown e i l) in
      (y, m, ap (λ (z : A). alike z y) (sym q) ∙ r)

  pub in_found : ((x : A) → Has x xs → (y : A) × Has y ys × (alike x y ≡ true))
      → all_to (length xs) (λ i. not (eqb (last_to (test i) (length ys)) 0) && row i (last_to (test i) (length ys) - 1)) ≡ true
  in_found f =
      all_to_all (length xs) shown (λ i h.
      let (y, m, r) = f (get_or xs i d) (has_at xs d i h) in
      one_from i h y m r)
