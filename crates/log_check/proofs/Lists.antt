-- Records by their places, as lists: in order, and last first.
-- Assumes nothing.
use Prim.Native.Nat.{ℕ, zero, suc, ◌+◌, ◌≤◌, ◌<◌}
use native.Mathlib.Nat.{add-zero}
use native.Mathlib.Omega.{arith}
use mathlib.Core.Path.{◌≡◌, refl, ap}
use mathlib.Core.List.{[], ◌∷◌, ◌++◌}
use lib.ListN.{length}
use Rattle.model.specs.Record.{Rec}
use Rattle.log_check.specs.InOrder.{listed, before}

module _ (at : ℕ → Rec) where
  pub before-length : (n : ℕ) → length (before at n) ≡ n
  unfolding before
  before-length zero = refl
  before-length (suc n) = ap suc (before-length n)

  pub listed-length : (i n : ℕ) → length (listed at i n) ≡ n
  unfolding listed
  listed-length i zero = refl
  listed-length i (suc n) = ap suc (listed-length (suc i) n)

  pub listed_more : (i n : ℕ) → listed at i (n + 1) ≡ listed at i n ++ (at (i + n) ∷ [])
  unfolding listed
  listed_more i zero = rw add-zero
  listed_more i (suc n) =
      let e : i + suc n ≡ suc i + n = omega arith in
      let f : suc n + 1 ≡ suc (n + 1) = omega arith in
      rw (f, e, listed_more (suc i) n)

-- places that hold the same records list alike
pub listed_same : (at to : ℕ → Rec) (i n : ℕ) → ((j : ℕ) → i ≤ j → j < i + n → at j ≡ to j) → listed at i n ≡ listed to i n
unfolding listed
listed_same at to i zero h = refl
listed_same at to i (suc n) h = rw (h i (omega arith) (omega arith), listed_same at to (suc i) n (λ j l k. h j (omega arith) (omega arith)))
