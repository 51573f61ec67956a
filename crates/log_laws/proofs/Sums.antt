-- Sums of the first values of a function.
-- Assumes nothing.
use Prim.Native.Nat.{ℕ, zero, suc, ◌+◌, ◌≤◌, ◌<◌}
use native.Mathlib.Omega.{arith}
use mathlib.Core.Path.{◌≡◌, refl, subst}
use mathlib.Core.Logic.{⊎_elim}
use Rattle.model.specs.Log.{sum_to}
use Rattle.byte_slice.proofs.Numbers.{lt_or_ge}

pub sum_to-eq : (n : ℕ) (f g : ℕ → ℕ) → ((v : ℕ) → v < n → f v ≡ g v) → sum_to n f ≡ sum_to n g
sum_to-eq zero f g h = refl
sum_to-eq (suc n) f g h = omega (arith, sum_to-eq n f g (λ v k. h v (omega arith)), h n (omega arith))

pub sum_to-le : (n : ℕ) (f g : ℕ → ℕ) → ((v : ℕ) → v < n → f v ≤ g v) → sum_to n f ≤ sum_to n g
sum_to-le zero f g h = omega arith
sum_to-le (suc n) f g h = omega (arith, sum_to-le n f g (λ v k. h v (omega arith)), h n (omega arith))

pub sum_to-lt : (n : ℕ) (f g : ℕ → ℕ) → ((v : ℕ) → v < n → f v ≤ g v) → (u : ℕ) → u < n → f u < g u → sum_to n f < sum_to n g
sum_to-lt zero f g h u k l = omega arith
sum_to-lt (suc n) f g h u k l =
    ⊎_elim
    (λ e. omega (arith, sum_to-lt n f g (λ v j. h v (omega arith)) u e l, h n (omega arith)))
    (λ e.
    let q : u ≡ n = omega arith in
    let m : f n < g n = subst (λ (w : ℕ). f w < g w) q l in
    omega (arith, sum_to-le n f g (λ v j. h v (omega arith))))
    (lt_or_ge u n)

-- one value more by one, the others alike
pub sum_to-suc : (n : ℕ) (f g : ℕ → ℕ) (u : ℕ) → u < n → g u ≡ suc (f u) → ((v : ℕ) → (u ≡ v → ⊥) → g v ≡ f v) → sum_to n g ≡ suc (sum_to n f)
sum_to-suc zero f g u k a b = absurd (omega arith)
sum_to-suc (suc n) f g u k a b =
    ⊎_elim
    (λ e. omega (arith, sum_to-suc n f g u e a b, b n (λ q. omega arith)))
    (λ e.
    let q : u ≡ n = omega arith in
    let z : g n ≡ suc (f n) = subst (λ (w : ℕ). g w ≡ suc (f w)) q a in
    omega (arith, sum_to-eq n g f (λ v j. b v (λ w. omega arith))))
    (lt_or_ge u n)

pub sum_to_zero : (n : ℕ) (f : ℕ → ℕ) → ((v : ℕ) → f v ≡ 0) → sum_to n f ≡ 0
sum_to_zero zero f h = refl
sum_to_zero (suc n) f h = omega (arith, sum_to_zero n f h, h n)

pub sum_to_plus : (n : ℕ) (f g h : ℕ → ℕ) → ((v : ℕ) → v < n → f v + g v ≡ h v) → sum_to n f + sum_to n g ≡ sum_to n h
sum_to_plus zero f g h e = refl
sum_to_plus (suc n) f g h e = omega (arith, sum_to_plus n f g h (λ v k. e v (omega arith)), e n (omega arith))
