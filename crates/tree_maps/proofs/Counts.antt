-- Places of folders, and the numbers of entries in them.
-- Assumes nothing.
use Prim.Native.Nat.{ℕ, zero, suc, ◌+◌, ◌-◌, ◌%◌, ◌≤◌, ◌<◌}
use native.Mathlib.Omega.{arith}
use mathlib.Core.Path.{◌≡◌, refl, ap, ◌∙◌}
use mathlib.Core.Logic.{⊎_elim}
use mathlib.Core.Bool.{Bool, true, false, cond, not}
use mathlib.Core.List.{List, [], ◌∷◌, ◌++◌}
use lib.Dec.{leb, ltb, eqb}
use lib.ListN.{get_or, length, set, length-set}
use lib.Seq.{get_or-set_same, get_or-set_other}
use borrow.Author.Tests.{eq-eqb, ne_eqb, le-leb, lt-ltb, leb-true, ltb-true}
use Rattle.model.specs.Replay.{Entry, is_present, is_in, has_entries}
use Rattle.byte_slice.proofs.Numbers.{eq_or_ne, bool_cases, and_true}
use Rattle.tree_table.specs.Rows.{InRange}
use Rattle.tree_maps.specs.Keys.{register_size, is_identity, link_of, hash_of, children_of, made_at, folder_at, OneEach, counted_up, counted_down}

-- ---- identities

pub identity-range : (k : ℕ) → is_identity k ≡ true → InRange k
unfolding is_identity
identity-range k e =
    let (a, b) = and_true (leb 8 k) (ltb k 524288) e in
    record { low = leb-true 8 k a; high = ltb-true k 524288 b }

pub range-identity : (k : ℕ) → InRange k → is_identity k ≡ true
unfolding is_identity
range-identity k r = rw (le-leb 8 k r.low, lt-ltb k 524288 r.high)

remainder_low : (x : ℕ) → x % 1021 < 1024
remainder_low x = omega arith

pub link_low : (k : ℕ) → link_of k < 1024
unfolding link_of
link_low k = remainder_low k

pub hash_low : (f : ℕ) (t : List ℕ) → hash_of f t < 1024
unfolding hash_of
hash_low f t = remainder_low _

-- ---- another number of entries

pub count-before : (l : List ℕ) (p v i : ℕ) → i < 8194 → get_or (set l (8194 + p) v) i 0 ≡ get_or l i 0
count-before l p v i h = get_or-set_other l (8194 + p) i v 0 (λ e. omega arith)

abbrev pub one : Bool → ℕ
one true = 1
one false = 0

module _ (l : List ℕ) (p q : ℕ) (long : length l ≡ register_size) (low : p ≤ 1024) where
  pub up_at : get_or (counted_up l p) (8194 + q) 0 ≡ get_or l (8194 + q) 0 + one (eqb p q)
  unfolding counted_up
  up_at =
      ⊎_elim (λ (z : p ≡ q). rw (← z, eq-eqb p p refl) (get_or-set_same l (8194 + p) (get_or l (8194 + p) 0 + 1) 0 (omega arith)))
      (λ (z : p ≡ q → ⊥). rw (ne_eqb p q z) (get_or-set_other l (8194 + p) (8194 + q) (get_or l (8194 + p) 0 + 1) 0 (λ e. z (omega arith)) ∙ omega arith))
      (eq_or_ne p q)

  pub down_at : get_or (counted_down l p) (8194 + q) 0 ≡ get_or l (8194 + q) 0 - one (eqb p q)
  unfolding counted_down
  down_at =
      ⊎_elim (λ (z : p ≡ q). rw (← z, eq-eqb p p refl) (get_or-set_same l (8194 + p) (get_or l (8194 + p) 0 - 1) 0 (omega arith)))
      (λ (z : p ≡ q → ⊥). rw (ne_eqb p q z) (get_or-set_other l (8194 + p) (8194 + q) (get_or l (8194 + p) 0 - 1) 0 (λ e. z (omega arith)) ∙ omega arith))
      (eq_or_ne p q)

-- ---- places of folders

pub made_set : (l : List Entry) (i : ℕ) (e d : Entry) → e.made ≡ (get_or l i d).made → (j : ℕ) → made_at (set l i e) j ≡ made_at l j
unfolding made_at
made_set [] i e d h j = refl
made_set (x ∷ l) zero e d h zero = h
made_set (x ∷ l) zero e d h (suc j) = refl
made_set (x ∷ l) (suc i) e d h zero = refl
made_set (x ∷ l) (suc i) e d h (suc j) = made_set l i e d h j

pub made_more : (l : List Entry) (e : Entry) (j : ℕ) → j < length l → made_at (l ++ (e ∷ [])) j ≡ made_at l j
unfolding made_at
made_more [] e j h = absurd (omega arith)
made_more (x ∷ l) e zero h = refl
made_more (x ∷ l) e (suc j) h = made_more l e j (omega arith)

pub made_new : (l : List Entry) (e : Entry) → made_at (l ++ (e ∷ [])) (length l) ≡ e.made
unfolding made_at
made_new [] e = refl
made_new (x ∷ l) e = made_new l e

pub made_row : (l : List Entry) (i : ℕ) (d : Entry) → i < length l → made_at l i ≡ (get_or l i d).made
unfolding made_at
made_row [] i d h = absurd (omega arith)
made_row (x ∷ l) zero d h = refl
made_row (x ∷ l) (suc i) d h = made_row l i d (omega arith)

pub folder_set : (l : List Entry) (i : ℕ) (e d : Entry) → e.made ≡ (get_or l i d).made → (p : ℕ) → folder_at (set l i e) p ≡ folder_at l p
unfolding folder_at
folder_set l i e d h zero = refl
folder_set l i e d h (suc j) = made_set l i e d h j

pub folder_more : (l : List Entry) (e : Entry) (p : ℕ) → p ≤ length l → folder_at (l ++ (e ∷ [])) p ≡ folder_at l p
unfolding folder_at
folder_more l e zero h = refl
folder_more l e (suc j) h = made_more l e j (omega arith)

pub folder_new : (l : List Entry) (e : Entry) → folder_at (l ++ (e ∷ [])) (suc (length l)) ≡ e.made
unfolding folder_at
folder_new l e = made_new l e

pub folder_row : (l : List Entry) (i : ℕ) (d : Entry) → i < length l → folder_at l (suc i) ≡ (get_or l i d).made
unfolding folder_at
folder_row l i d h = made_row l i d h

pub one_each_set : (l : List Entry) (i : ℕ) (e d : Entry) → e.made ≡ (get_or l i d).made → OneEach l → OneEach (set l i e)
one_each_set l i e d h u p q a b z =
    let n = length-set l i e in
    u p q (omega arith) (omega arith) (rw (folder_set l i e d h p, folder_set l i e d h q) at z)

-- a folder is at one place only
pub same_place : (es : List Entry) → OneEach es → (p q f : ℕ) → p ≤ length es → q ≤ length es → folder_at es p ≡ f → one (eqb p q) ≡ one (eqb f (folder_at es q))
same_place es u p q f a b e =
    ⊎_elim (λ (z : p ≡ q). rw (← z, e, eq-eqb p p refl, eq-eqb f f refl))
    (λ (z : p ≡ q → ⊥). rw (ne_eqb p q z, ne_eqb f (folder_at es q) (λ (y : f ≡ folder_at es q). z (u p q a b (e ∙ y)))))
    (eq_or_ne p q)

-- ---- how many entries a folder has

pub children_cons : (k : ℕ) (e : Entry) (l : List Entry) → children_of k (e ∷ l) ≡ one (is_in k e) + children_of k l
unfolding children_of
children_cons k e l = go (is_in k e)
  where
    go : (b : Bool) → cond b (suc (children_of k l)) (children_of k l) ≡ one b + children_of k l
    go true = omega arith
    go false = omega arith

pub children_more : (k : ℕ) (l : List Entry) (e : Entry) → children_of k (l ++ (e ∷ [])) ≡ children_of k l + one (is_in k e)
children_more k [] e = omega (arith, children_cons k e [])
children_more k (x ∷ l) e = omega (arith, children_cons k x l, children_cons k x (l ++ (e ∷ [])), children_more k l e)

pub children_set : (k : ℕ) (l : List Entry) (i : ℕ) (e d : Entry) → i < length l → children_of k (set l i e) + one (is_in k (get_or l i d)) ≡ children_of k l + one (is_in k e)
children_set k [] i e d h = absurd (omega arith)
children_set k (x ∷ l) zero e d h = omega (arith, children_cons k x l, children_cons k e l)
children_set k (x ∷ l) (suc i) e d h = omega (arith, children_cons k x l, children_cons k x (set l i e), children_set k l i e d (omega arith))

one_few : (b : Bool) → one b ≤ 1
one_few true = omega arith
one_few false = omega arith

pub children_few : (k : ℕ) (l : List Entry) → children_of k l ≤ length l
unfolding children_of
children_few k [] = omega arith
children_few k (e ∷ l) = omega (arith, children_cons k e l, children_few k l, one_few (is_in k e))

pub children_some : (k : ℕ) (l : List Entry) (i : ℕ) (d : Entry) → i < length l → is_in k (get_or l i d) ≡ true → 1 ≤ children_of k l
children_some k [] i d h g = absurd (omega arith)
children_some k (e ∷ l) zero d h g = omega (arith, children_cons k e l, ap one g)
children_some k (e ∷ l) (suc i) d h g = omega (arith, children_cons k e l, children_some k l i d (omega arith) g)

pub has_children : (k : ℕ) (l : List Entry) → has_entries k l ≡ not (eqb (children_of k l) 0)
unfolding has_entries children_of
has_children k [] = refl
has_children k (e ∷ l) =
    ⊎_elim (λ (h : is_in k e ≡ true). rw (h, ne_eqb (suc (children_of k l)) 0 (λ z. omega arith)))
    (λ (h : is_in k e ≡ false). rw h (has_children k l)) (bool_cases (is_in k e))

-- ---- in a folder

pub present_in : (k : ℕ) (e : Entry) → is_present e ≡ true → is_in k e ≡ eqb e.inside k
unfolding is_in
present_in k e h = rw h

pub absent_in : (k : ℕ) (e : Entry) → is_present e ≡ false → is_in k e ≡ false
unfolding is_in
absent_in k e h = rw h

pub same_in : (k : ℕ) (e o : Entry) → is_present e ≡ is_present o → e.inside ≡ o.inside → is_in k e ≡ is_in k o
unfolding is_in
same_in k e o p q = rw (p, q)
