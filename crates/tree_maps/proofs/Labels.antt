-- The chain of a label: one for labels that are the same.
-- Assumes nothing.
use Prim.Native.Nat.{ℕ, zero, suc, ◌+◌, ◌*◌, ◌%◌, ◌≤◌, ◌<◌}
use native.Mathlib.Numerals.{add-one}
use native.Mathlib.Omega.{arith}
use mathlib.Core.Path.{◌≡◌, refl}
use mathlib.Core.Logic.{⊎_elim}
use mathlib.Core.Bool.{Bool, true, false, ◌&&◌}
use mathlib.Core.List.{List, [], ◌∷◌}
use lib.Dec.{leb, ltb}
use lib.ListN.{get_or}
use borrow.Author.Tests.{ltb-true}
use Rattle.model.specs.Replay.{lower, label_key}
use Rattle.byte_slice.proofs.Numbers.{bool_cases, and_true}
use Rattle.tree_maps.specs.Keys.{weights, weighed, hash_of}

lower_coarse : (x : ℕ) → lower x % 32 ≡ x % 32
unfolding lower
lower_coarse x =
    ⊎_elim (λ (h : (leb 65 x && leb x 90) ≡ true). rw h (omega arith)) (λ (h : (leb 65 x && leb x 90) ≡ false). rw h) (bool_cases (leb 65 x && leb x 90))

key_coarse : (t : List ℕ) (i : ℕ) → get_or (label_key t) i 0 % 32 ≡ get_or t i 0 % 32
unfolding label_key
key_coarse [] i = refl
key_coarse (x ∷ t) zero = lower_coarse x
key_coarse (x ∷ t) (suc i) = key_coarse t i

key_weighed : (t : List ℕ) (i : ℕ) → weighed i (label_key t) ≡ weighed i t
unfolding weighed
key_weighed t zero = refl
key_weighed t (suc i) = rw (key_weighed t i, key_coarse t i)

-- labels of one key are in one chain
pub hash_key : (f : ℕ) (a b : List ℕ) → label_key a ≡ label_key b → hash_of f a ≡ hash_of f b
unfolding hash_of
hash_key f a b e = rw (← key_weighed a 32, e, key_weighed b 32)

-- ---- what the loop of `hash` is asked, over plain values

unfoldable all_low : List ℕ → Bool
all_low [] = true
all_low (x ∷ l) = ltb x 32768 && all_low l

low_at : (l : List ℕ) (i : ℕ) → all_low l ≡ true → get_or l i 0 < 32768
unfolding all_low
low_at [] i h = omega arith
low_at (x ∷ l) zero h = ltb-true x 32768 (and_true (ltb x 32768) (all_low l) h).0
low_at (x ∷ l) (suc i) h = low_at l i (and_true (ltb x 32768) (all_low l) h).1

pub weight_at : (by : List ℕ) (i : ℕ) → by ≡ weights → get_or by i 0 < 32768
unfolding weights all_low
weight_at by i e = rw e (low_at weights i refl)

pub weigh_next : (t by : List ℕ) (i r sum : ℕ) → by ≡ weights → r ≡ get_or t i 0 % 32 * get_or by i 0 → sum ≡ weighed i t → sum + r ≡ weighed (i + 1) t
unfolding weighed
weigh_next t by i r sum b a e = rw (add-one i, e, a, b)

pub hash_ends : (t : List ℕ) (i f sum : ℕ) → i ≤ 32 → 32 ≤ i → sum ≡ weighed i t → (sum + f % 1021 * 577) % 1021 ≡ hash_of f t
unfolding hash_of
hash_ends t i f sum h g e = let z : i ≡ 32 = omega arith in rw (e, z)
