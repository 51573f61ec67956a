-- How far a vector is behind another, and what that has to do with covering and comparing.
-- Assumes nothing.
use Prim.Native.Nat.{ℕ, zero, suc, ◌+◌, ◌-◌, ◌≤◌, ◌<◌}
use native.Mathlib.Numerals.{add-one}
use native.Mathlib.Omega.{arith}
use mathlib.Core.Path.{◌≡◌, refl, sym, ◌∙◌}
use mathlib.Core.Logic.{⊎_elim, ◌↔◌}
use mathlib.Core.Bool.{true, false, cond}
use mathlib.Core.List.{List}
use lib.Dec.{eqb}
use lib.ListN.{get_or}
use borrow.Author.Tests.{eq-eqb, ne_eqb}
use Rattle.model.specs.Vector.{covers, compare_of, lacks_to, lacks_of, comparison_of}
use Rattle.byte_slice.proofs.Numbers.{lt_or_ge, bool_cases, not_both}
use Rattle.vector.proofs.Dominance.{covers_at, all_covers}

none-lacked : (a b : List ℕ) (n : ℕ) → ((u : ℕ) → u < n → get_or b u 0 ≤ get_or a u 0) → lacks_to a b n ≡ 0
unfolding lacks_to
none-lacked a b zero h = refl
none-lacked a b (suc n) h = omega (arith, none-lacked a b n (λ u k. h u (omega arith)), h n (omega arith))

lacked-none : (a b : List ℕ) (n : ℕ) → lacks_to a b n ≡ 0 → (u : ℕ) → u < n → get_or b u 0 ≤ get_or a u 0
unfolding lacks_to
lacked-none a b zero e u h = absurd (omega arith)
lacked-none a b (suc n) e u h =
    ⊎_elim (λ k. lacked-none a b n (omega arith) u k) (λ k. let m : u ≡ n = omega arith in rw m (omega arith)) (lt_or_ge u n)

-- a lacks nothing exactly if it covers
pub covers_exactly : (a b : List ℕ) → (covers a b ≡ true) ↔ (lacks_of a b ≡ 0)
unfolding lacks_of
covers_exactly a b = (λ e. none-lacked a b 8 (covers_at a b e), λ e. all_covers a b (lacked-none a b 8 e))

-- so the first number of a comparison is 0 if the first covers the second
pub lacks_none : (a b : List ℕ) → covers a b ≡ true → (comparison_of a b).first ≡ 0
unfolding comparison_of
lacks_none a b e = (covers_exactly a b).0 e

covers_test : (a b : List ℕ) → covers a b ≡ eqb (lacks_of a b) 0
covers_test a b =
    ⊎_elim
    (λ (e : covers a b ≡ true). e ∙ sym (eq-eqb (lacks_of a b) 0 ((covers_exactly a b).0 e)))
    (λ (e : covers a b ≡ false). e ∙ sym (ne_eqb (lacks_of a b) 0 (λ z. not_both (covers a b) ((covers_exactly a b).1 z) e)))
    (bool_cases (covers a b))

-- the answer of a comparison follows from the two numbers
pub answer_by_distances : (a b : List ℕ)
    → compare_of a b ≡ cond (eqb (lacks_of a b) 0) (cond (eqb (lacks_of b a) 0) 0 1) (cond (eqb (lacks_of b a) 0) 2 3)
unfolding compare_of
answer_by_distances a b = rw (covers_test a b, covers_test b a)

-- ---- what the loop of `lacks` is asked, over plain values

module _ (a b : List ℕ) (u s m : ℕ) where
  pub lacks_next : s ≡ lacks_to a b u → m ≡ get_or b u 0 - get_or a u 0 → s + m ≡ lacks_to a b (u + 1)
  unfolding lacks_to
  lacks_next e f = rw (add-one, e, f)

  pub lacks_ends : u ≤ 8 → 8 ≤ u → s ≡ lacks_to a b u → s ≡ lacks_of a b
  unfolding lacks_of
  lacks_ends h k e = let n : u ≡ 8 = omega arith in (rw n at e)
