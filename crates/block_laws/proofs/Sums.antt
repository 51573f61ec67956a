-- The two sums: what they depend on, and that a sealed block holds its own.
-- Assumes nothing.
use Prim.Native.Nat.{ℕ, zero, suc, ◌*◌, ◌≤◌, ◌<◌}
use native.Mathlib.Omega.{arith}
use mathlib.Core.Path.{◌≡◌, refl}
use mathlib.Core.Bool.{true}
use mathlib.Core.List.{List, [], ◌++◌, append_assoc}
use lib.ListN.{length, take, length-append}
use borrow.Author.Tests.{eq-eqb}
use Rattle.model.specs.Bytes.{word, two}
use Rattle.model.specs.Block.{first_to, second_to, sealed, sums_hold}
use Rattle.byte_slice.proofs.Words.{word_front, word_at, word-take}

pub first_small : (b : List ℕ) (n : ℕ) → first_to b n < 65521
unfolding first_to
first_small b zero = omega arith
first_small b (suc n) = omega arith

pub second_small : (b : List ℕ) (n : ℕ) → second_to b n < 65521
unfolding second_to
second_small b zero = omega arith
second_small b (suc n) = omega arith

-- the sums of n words are those of any list that has the same n words
pub first_same : (a b : List ℕ) (n : ℕ) → ((j : ℕ) → j < n → word a (2 * j) ≡ word b (2 * j)) → first_to a n ≡ first_to b n
unfolding first_to
first_same a b zero h = refl
first_same a b (suc n) h = rw (first_same a b n (λ j k. h j (omega arith)), h n (omega arith))

pub second_same : (a b : List ℕ) (n : ℕ) → ((j : ℕ) → j < n → word a (2 * j) ≡ word b (2 * j)) → second_to a n ≡ second_to b n
unfolding second_to
second_same a b zero h = refl
second_same a b (suc n) h = rw (second_same a b n (λ j k. h j (omega arith)), first_same a b (suc n) h)

-- what stands behind the words does not count
pub first_front : (p q : List ℕ) (n : ℕ) → 2 * n ≤ length p → first_to (p ++ q) n ≡ first_to p n
first_front p q n h = first_same (p ++ q) p n (λ j k. word_front p q (2 * j) (omega arith))

pub second_front : (p q : List ℕ) (n : ℕ) → 2 * n ≤ length p → second_to (p ++ q) n ≡ second_to p n
second_front p q n h = second_same (p ++ q) p n (λ j k. word_front p q (2 * j) (omega arith))

pub first_take : (b : List ℕ) (n m : ℕ) → 2 * n ≤ m → first_to (take m b) n ≡ first_to b n
first_take b n m h = first_same (take m b) b n (λ j k. word-take m b (2 * j) (omega arith))

pub second_take : (b : List ℕ) (n m : ℕ) → 2 * n ≤ m → second_to (take m b) n ≡ second_to b n
second_take b n m h = second_same (take m b) b n (λ j k. word-take m b (2 * j) (omega arith))

-- the sums stand behind 508 bytes
pub sums_stand : (b : List ℕ) (p q : ℕ) → length b ≡ 508 → (word (b ++ (two p ++ two q)) 508 ≡ p) × (word (b ++ (two p ++ two q)) 510 ≡ q)
sums_stand b p q e =
    let n : length (b ++ two p) ≡ 510 = omega (arith, length-append b (two p)) in
    (rw e at (word_at b p (two q)), rw (n, append_assoc b (two p)) at (word_at (b ++ two p) q []))

pub sealed-holds : (b : List ℕ) → length b ≡ 508 → sums_hold (sealed b) ≡ true
unfolding sums_hold sealed
sealed-holds b e =
    let t : List ℕ = two (first_to b 254) ++ two (second_to b 254) in
    let (p, q) = sums_stand b (first_to b 254) (second_to b 254) e in
    rw (first_front b t 254 (omega arith), second_front b t 254 (omega arith), p, q, eq-eqb (first_to b 254) (first_to b 254) refl, eq-eqb (second_to b 254) (second_to b 254) refl)
