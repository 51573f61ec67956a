-- What a comparison answers: by the two tests whether one vector covers the other, and by the two numbers of records lacked.
-- Assumes nothing.
use Prim.Native.Nat.{ℕ}
use native.Mathlib.Omega.{arith}
use mathlib.Core.Path.{◌≡◌, refl}
use mathlib.Core.Bool.{Bool, true, false, cond}
use mathlib.Core.List.{List}
use lib.Dec.{eqb}
use borrow.Author.Tests.{ne_eqb}
use Rattle.model.specs.Vector.{covers, compare_of, lacks_of, compared, comparison_of}
use Rattle.vector.proofs.Distances.{answer_by_distances}

-- the answer to what the two tests say
abbrev pub answer : Bool → Bool → ℕ
answer g l = cond g (cond l 0 1) (cond l 2 3)

module _ (a b : List ℕ) where
  pub answer_is : (g l : Bool) → covers a b ≡ g → covers b a ≡ l → compare_of a b ≡ answer g l
  unfolding compare_of
  answer_is g l p q = rw (p, q)

-- from the two numbers, as the code has them
pub told : (a b : List ℕ) (n f s : ℕ) → f ≡ lacks_of a b → s ≡ lacks_of b a → n ≡ answer (eqb f 0) (eqb s 0) → compared n f s ≡ comparison_of a b
unfolding comparison_of
told a b n f s p q e = rw (answer_by_distances a b, e, p, q)

module _ (f s : ℕ) where
  pub neither_lacks : f ≡ 0 → s ≡ 0 → 0 ≡ answer (eqb f 0) (eqb s 0)
  neither_lacks p q = rw (p, q)

  pub second_lacks : f ≡ 0 → (s ≡ 0 → ⊥) → 1 ≡ answer (eqb f 0) (eqb s 0)
  second_lacks p q = rw (p, ne_eqb s 0 q)

  pub first_lacks : (f ≡ 0 → ⊥) → s ≡ 0 → 2 ≡ answer (eqb f 0) (eqb s 0)
  first_lacks p q = rw (ne_eqb f 0 p, q)

  pub both_lack : (f ≡ 0 → ⊥) → (s ≡ 0 → ⊥) → 3 ≡ answer (eqb f 0) (eqb s 0)
  both_lack p q = rw (ne_eqb f 0 p, ne_eqb s 0 q)

-- an answer tells both tests
read_0 : (g l : Bool) → answer g l ≡ 0 → (g ≡ true) × (l ≡ true)
read_0 true true e = (refl, refl)
read_0 true false e = absurd (omega arith)
read_0 false true e = absurd (omega arith)
read_0 false false e = absurd (omega arith)

read_1 : (g l : Bool) → answer g l ≡ 1 → (g ≡ true) × (l ≡ false)
read_1 true true e = absurd (omega arith)
read_1 true false e = (refl, refl)
read_1 false true e = absurd (omega arith)
read_1 false false e = absurd (omega arith)

read_2 : (g l : Bool) → answer g l ≡ 2 → (g ≡ false) × (l ≡ true)
read_2 true true e = absurd (omega arith)
read_2 true false e = absurd (omega arith)
read_2 false true e = (refl, refl)
read_2 false false e = absurd (omega arith)

read_3 : (g l : Bool) → answer g l ≡ 3 → (g ≡ false) × (l ≡ false)
read_3 true true e = absurd (omega arith)
read_3 true false e = absurd (omega arith)
read_3 false true e = absurd (omega arith)
read_3 false false e = (refl, refl)

module _ (a b : List ℕ) where
  pub said_0 : compare_of a b ≡ 0 → (covers a b ≡ true) × (covers b a ≡ true)
  unfolding compare_of
  said_0 e = read_0 (covers a b) (covers b a) e

  pub said_1 : compare_of a b ≡ 1 → (covers a b ≡ true) × (covers b a ≡ false)
  unfolding compare_of
  said_1 e = read_1 (covers a b) (covers b a) e

  pub said_2 : compare_of a b ≡ 2 → (covers a b ≡ false) × (covers b a ≡ true)
  unfolding compare_of
  said_2 e = read_2 (covers a b) (covers b a) e

  pub said_3 : compare_of a b ≡ 3 → (covers a b ≡ false) × (covers b a ≡ false)
  unfolding compare_of
  said_3 e = read_3 (covers a b) (covers b a) e
