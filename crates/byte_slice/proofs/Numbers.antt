-- Case distinctions on numbers and tests.
-- Assumes nothing.
use Prim.Native.Nat.{ℕ, zero, suc, ◌<◌, ◌≤◌}
use mathlib.Core.Path.{◌≡◌, refl}
use mathlib.Core.Logic.{◌⊎◌, inl, inr}
use mathlib.Core.Bool.{Bool, true, false, cond, ◌&&◌, ◌||◌, false≢true, true≢false}
use native.Mathlib.Omega.{arith}
use native.Mathlib.Decide.{dec_lt, ℕ_discrete}
use Rattle.model.specs.Numbers.{first_of}

pub lt_or_ge : (a b : ℕ) → (a < b) ⊎ (b ≤ a)
lt_or_ge a b = go (dec_lt a b)
  where
    go : Dec (a < b) → (a < b) ⊎ (b ≤ a)
    go (yes h) = inl h
    go (no h) = inr (omega arith)

pub eq_or_ne : (a b : ℕ) → (a ≡ b) ⊎ (a ≡ b → ⊥)
eq_or_ne a b = go (ℕ_discrete a b)
  where
    go : Dec (a ≡ b) → (a ≡ b) ⊎ (a ≡ b → ⊥)
    go (yes h) = inl h
    go (no h) = inr h

pub bool_cases : (b : Bool) → (b ≡ true) ⊎ (b ≡ false)
bool_cases true = inl refl
bool_cases false = inr refl

pub cond_cases {ℓ} : {A : Type ℓ} (b : Bool) (x y : A) → ((b ≡ true) × (cond b x y ≡ x)) ⊎ ((b ≡ false) × (cond b x y ≡ y))
cond_cases true x y = inl (refl, refl)
cond_cases false x y = inr (refl, refl)

pub cond_self : (t : Bool) → cond t true false ≡ t
cond_self true = refl
cond_self false = refl

-- a conjunction that holds, taken apart
pub or_true : (a b : Bool) → (a || b) ≡ true → (a ≡ true) ⊎ (b ≡ true)
or_true true b e = inl refl
or_true false b e = inr e

pub and_true : (a b : Bool) → (a && b) ≡ true → (a ≡ true) × (b ≡ true)
and_true true b e = (refl, e)
and_true false b e = absurd (false≢true e)

pub true_and : (a b : Bool) → a ≡ true → b ≡ true → (a && b) ≡ true
true_and a b p q = rw (p, q)

pub and_right : (a : Bool) → (a && true) ≡ a
and_right true = refl
and_right false = refl

pub and_wrong : (a : Bool) → (a && false) ≡ false
and_wrong true = refl
and_wrong false = refl

-- a conjunction that fails, taken apart
pub and_false : (a b : Bool) → (a && b) ≡ false → (a ≡ false) ⊎ (b ≡ false)
and_false true b e = inr e
and_false false b e = inl refl

pub not_both : (b : Bool) → b ≡ true → b ≡ false → ⊥
not_both true p q = true≢false q
not_both false p q = false≢true p

-- the first of two numbers that is not 0
pub first_stops : (m n : ℕ) → (m ≡ 0 → ⊥) → first_of m n ≡ m
first_stops zero n h = absurd (h refl)
first_stops (suc m) n h = refl

pub first_zero : (m n : ℕ) → first_of m n ≡ 0 → (m ≡ 0) × (n ≡ 0)
first_zero zero n e = (refl, e)
first_zero (suc m) n e = absurd (omega arith)

-- a test that cannot hold fails, and the other way round
pub test_false : (b : Bool) → (b ≡ true → ⊥) → b ≡ false
test_false true h = absurd (h refl)
test_false false h = refl

pub test_true : (b : Bool) → (b ≡ false → ⊥) → b ≡ true
test_true true h = refl
test_true false h = absurd (h refl)
