-- When one vector covers another.
-- Assumes nothing.
use Prim.Native.Nat.{ℕ, zero, suc, ◌+◌, ◌≤◌, ◌<◌}
use native.Mathlib.Numerals.{add-one}
use native.Mathlib.Omega.{arith}
use mathlib.Core.Path.{◌≡◌, refl, sym, ◌∙◌}
use mathlib.Core.Logic.{⊎_elim}
use mathlib.Core.Bool.{Bool, true, false, ◌&&◌}
use mathlib.Core.List.{List}
use lib.Dec.{leb}
use lib.ListN.{get_or, length}
use lib.Seq.{ext_get_or}
use borrow.Author.Tests.{le-leb, leb-true}
use Rattle.model.specs.Vector.{covers_to, covers}
use Rattle.byte_slice.proofs.Numbers.{lt_or_ge, and_true, true_and, test_false}

-- ---- covering is count by count

pub covers_to-at : (a b : List ℕ) (n : ℕ) → covers_to a b n ≡ true → (u : ℕ) → u < n → get_or b u 0 ≤ get_or a u 0
unfolding covers_to
covers_to-at a b zero e u h = absurd (omega arith)
covers_to-at a b (suc n) e u h =
    let (p, q) = and_true (covers_to a b n) (leb (get_or b n 0) (get_or a n 0)) e in
    ⊎_elim
    (λ k. covers_to-at a b n p u k)
    (λ k. let m : u ≡ n = omega arith in rw m (leb-true (get_or b n 0) (get_or a n 0) q))
    (lt_or_ge u n)

pub all_covers_to : (a b : List ℕ) (n : ℕ) → ((u : ℕ) → u < n → get_or b u 0 ≤ get_or a u 0) → covers_to a b n ≡ true
unfolding covers_to
all_covers_to a b zero h = refl
all_covers_to a b (suc n) h =
    true_and
    (covers_to a b n)
    (leb (get_or b n 0) (get_or a n 0))
    (all_covers_to a b n (λ u k. h u (omega arith)))
    (le-leb (get_or b n 0) (get_or a n 0) (h n (omega arith)))

pub covers_at : (a b : List ℕ) → covers a b ≡ true → (u : ℕ) → u < 8 → get_or b u 0 ≤ get_or a u 0
unfolding covers
covers_at a b e u h = covers_to-at a b 8 e u h

pub all_covers : (a b : List ℕ) → ((u : ℕ) → u < 8 → get_or b u 0 ≤ get_or a u 0) → covers a b ≡ true
unfolding covers
all_covers a b h = all_covers_to a b 8 h

-- one smaller count is enough to fail
pub less_fails : (a b : List ℕ) (u : ℕ) → u < 8 → get_or a u 0 < get_or b u 0 → covers a b ≡ false
less_fails a b u h k = test_false (covers a b) (λ e. let m = covers_at a b e u h in omega arith)

pub covers_refl : (a : List ℕ) → covers a a ≡ true
covers_refl a = all_covers a a (λ u h. omega arith)

pub covers_trans : (a b c : List ℕ) → covers a b ≡ true → covers b c ≡ true → covers a c ≡ true
covers_trans a b c p q = all_covers a c (λ u h. omega (arith, covers_at a b p u h, covers_at b c q u h))

pub covers_antisym : (a b : List ℕ) → length a ≡ 8 → length b ≡ 8 → covers a b ≡ true → covers b a ≡ true → a ≡ b
covers_antisym a b m n p q = ext_get_or 0 a b (m ∙ sym n) (λ u h. omega (arith, covers_at a b p u (omega arith), covers_at b a q u (omega arith)))

-- vectors whose counts differ alike cover alike
pub covers_same : (a b c d : List ℕ) → ((u : ℕ) → u < 8 → (get_or b u 0 ≤ get_or a u 0) → get_or d u 0 ≤ get_or c u 0)
    → covers a b ≡ true → covers c d ≡ true
covers_same a b c d f e = all_covers c d (λ u h. f u h (covers_at a b e u h))

-- ---- what the loop of `covers` is asked, over plain values

module _ (a b : List ℕ) (u : ℕ) (g : Bool) where
  pub covers-next : g ≡ covers_to a b u → g && leb (get_or b u 0) (get_or a u 0) ≡ covers_to a b (u + 1)
  unfolding covers_to
  covers-next e = rw (add-one, e)

  pub covers_ends : u ≤ 8 → 8 ≤ u → g ≡ covers_to a b u → g ≡ covers a b
  unfolding covers
  covers_ends h k e = let n : u ≡ 8 = omega arith in (rw n at e)
