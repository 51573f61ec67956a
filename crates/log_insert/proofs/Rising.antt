-- Records that rise are put in with the last first, or one after another.
-- Assumes nothing.
use Prim.Native.Nat.{ℕ, zero, suc, ◌+◌, ◌≤◌, ◌<◌}
use native.Mathlib.Nat.{add-zero, zero-add}
use native.Mathlib.Omega.{arith}
use mathlib.Core.Path.{◌≡◌, refl, sym, ap, ◌∙◌}
use mathlib.Core.Logic.{⊎_elim}
use mathlib.Core.List.{List, [], ◌∷◌, ◌++◌}
use borrow.Author.Tests.{lt-ltb, le-ltb}
use Rattle.model.specs.Record.{Rec}
use Rattle.model.specs.Log.{rank, insert}
use Rattle.byte_slice.proofs.Numbers.{lt_or_ge}
use Rattle.log_laws.proofs.Insert.{insert-nil}
use Rattle.log_insert.specs.Where.{Rising, insert_to}

-- a record goes before one that ranks above it
pub insert_front : (r s : Rec) (l m : List Rec) → rank r < rank s → insert r (l ++ s ∷ m) ≡ insert r l ++ s ∷ m
unfolding insert
insert_front r s [] m h = rw (lt-ltb (rank r) (rank s) h)
insert_front r s (x ∷ l) m h =
    ⊎_elim
    (λ (k : rank r < rank x). rw (lt-ltb (rank r) (rank x) k))
    (λ (k : rank x ≤ rank r). rw (le-ltb (rank r) (rank x) k, insert_front r s l m h))
    (lt_or_ge (rank r) (rank x))

-- where a record goes beside the first of a list
before : (r x : Rec) (l : List Rec) → rank r < rank x → insert r (x ∷ l) ≡ r ∷ x ∷ l
unfolding insert
before r x l h = rw (lt-ltb (rank r) (rank x) h)

behind : (r x : Rec) (l : List Rec) → rank x ≤ rank r → insert r (x ∷ l) ≡ x ∷ insert r l
unfolding insert
behind r x l h = rw (le-ltb (rank r) (rank x) h)

-- two records of different rank may go in either way round
pub insert_swap : (r s : Rec) (l : List Rec) → rank r < rank s → insert r (insert s l) ≡ insert s (insert r l)
insert_swap r s [] h = ap (insert r) (insert-nil s) ∙ before r s [] h ∙ sym (ap (insert s) (insert-nil r) ∙ behind s r [] (omega arith) ∙ ap (λ (x : List Rec). r ∷ x) (insert-nil s))
insert_swap r s (x ∷ l) h =
    ⊎_elim
    (λ (a : rank r < rank x).
    ⊎_elim
    (λ (b : rank s < rank x).
    ap (insert r) (before s x l b) ∙ before r s (x ∷ l) h
    ∙ sym (ap (insert s) (before r x l a) ∙ behind s r (x ∷ l) (omega arith) ∙ ap (λ (y : List Rec). r ∷ y) (before s x l b)))
    (λ (b : rank x ≤ rank s).
    ap (insert r) (behind s x l b) ∙ before r x (insert s l) a
    ∙ sym (ap (insert s) (before r x l a) ∙ behind s r (x ∷ l) (omega arith) ∙ ap (λ (y : List Rec). r ∷ y) (behind s x l b)))
    (lt_or_ge (rank s) (rank x)))
    (λ (a : rank x ≤ rank r).
    ap (insert r) (behind s x l (omega arith)) ∙ behind r x (insert s l) a ∙ ap (λ (y : List Rec). x ∷ y) (insert_swap r s l h)
    ∙ sym (ap (insert s) (behind r x l a) ∙ behind s x (insert r l) (omega arith)))
    (lt_or_ge (rank r) (rank x))

module _ (to : ℕ → Rec) where
  -- the n records from j on, put in with the last first
  unfoldable pub insertFrom : List Rec → ℕ → ℕ → List Rec
  insertFrom l j zero = l
  insertFrom l j (suc n) = insert (to j) (insertFrom l (suc j) n)

  module _ (k : ℕ) (h : Rising to k) where
    rises_far : (i j : ℕ) → i < j → j < k → rank (to i) < rank (to j)
    rises_far i zero a b = absurd (omega arith)
    rises_far i (suc j) a b =
        ⊎_elim
        (λ (c : i < j). omega (arith, rises_far i j c (omega arith), h.rises j b))
        (λ c. let e : i ≡ j = omega arith in rw e (h.rises j b))
        (lt_or_ge i j)

    last_out : (l : List Rec) (j n : ℕ) → j + n < k → insertFrom l j (suc n) ≡ insert (to (j + n)) (insertFrom l j n)
    unfolding insertFrom
    last_out l j zero a = rw (add-zero j)
    last_out l j (suc n) a =
        let e : j + suc n ≡ suc j + n = omega arith in
        ap (insert (to j)) (last_out l (suc j) n (omega arith)) ∙ rw e (insert_swap (to j) (to (suc j + n)) (insertFrom l (suc j) n) (rises_far j (suc j + n) (omega arith) (omega arith)))

    pub either_way : (l : List Rec) (n : ℕ) → n ≤ k → insertFrom l 0 n ≡ insert_to l to n
    unfolding insertFrom insert_to
    either_way l zero a = refl
    either_way l (suc n) a = last_out l 0 n (omega arith) ∙ rw (zero-add n, either_way l n (omega arith))
