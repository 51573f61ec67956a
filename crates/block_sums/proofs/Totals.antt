-- The totals whose remainders are the two sums.
-- Assumes nothing.
use Prim.Native.Nat.{ℕ, zero, suc, ◌+◌, ◌-◌, ◌*◌, ◌%◌, ◌≤◌, ◌<◌}
use native.Mathlib.Numerals.{add-one}
use native.Mathlib.Nat.{mod-add-mod, add-mod-mod, mul-zero, zero-mul, suc-mul, mul-add, mul-le-mul, sub_self}
use native.Mathlib.Omega.{arith}
use mathlib.Core.Path.{◌≡◌, refl, ap, ◌∙◌}
use mathlib.Core.Logic.{⊎_elim}
use mathlib.Core.List.{List}
use lib.ListN.{get_or, length, set}
use lib.Seq.{get_or-set_same, get_or-set_other}
use Rattle.model.specs.Bytes.{word}
use Rattle.model.specs.Block.{first_to, second_to}
use Rattle.byte_slice.proofs.Numbers.{lt_or_ge}
use Rattle.block_sums.specs.Weights.{Weights}

-- the first n words added up
unfoldable pub first_total_lem : List ℕ → ℕ → ℕ
first_total_lem b zero = 0
first_total_lem b (suc n) = first_total_lem b n + word b (2 * n)

-- the first totals after each of the first n words added up
unfoldable pub second_total_lem : List ℕ → ℕ → ℕ
second_total_lem b zero = 0
second_total_lem b (suc n) = second_total_lem b n + first_total_lem b (suc n)

-- the same by weights: of m words, word j goes into m - j of the totals
unfoldable pub weighted : List ℕ → ℕ → ℕ → ℕ
weighted b m zero = 0
weighted b m (suc n) = weighted b m n + (m - n) * word b (2 * n)

pub first_total : (b : List ℕ) (n : ℕ) → first_total_lem b n % 65521 ≡ first_to b n
unfolding first_total_lem first_to
first_total b zero = refl
first_total b (suc n) = rw (← first_total b n, mod-add-mod)

pub second_total : (b : List ℕ) (n : ℕ) → second_total_lem b n % 65521 ≡ second_to b n
unfolding second_total_lem second_to
second_total b zero = refl
second_total b (suc n) = rw (← second_total b n, ← first_total b (suc n), mod-add-mod, add-mod-mod)

weighted_is : (b : List ℕ) (m n : ℕ) → n ≤ m → weighted b m n ≡ second_total_lem b n + (m - n) * first_total_lem b n
unfolding weighted second_total_lem first_total_lem
weighted_is b m zero h = rw (mul-zero (m - 0))
weighted_is b m (suc n) h =
    let e : m - n ≡ suc (m - suc n) = omega arith in
    let s = second_total_lem b n in
    let f = first_total_lem b n in
    let w = word b (2 * n) in
    let k = m - suc n in
    rw (weighted_is b m n (omega arith), e) (omega (arith, suc-mul k f, suc-mul k w, mul-add k f w))

pub weighted_total : (b : List ℕ) (n : ℕ) → weighted b n n ≡ second_total_lem b n
weighted_total b n = omega (arith, weighted_is b n n (omega arith), ap (λ (k : ℕ). k * first_total_lem b n) (sub_self n), zero-mul (first_total_lem b n))

-- what the loop of `weights` is asked, over plain values
pub no_weights : (by : List ℕ) → Weights by 0
no_weights by = record { weight = λ j h. absurd (omega arith) }

module _ (by : List ℕ) (i : ℕ) (w : Weights by i) where
  pub next_weight : (p : ℕ) → i < 254 → length by ≡ 254 → p ≡ i → Weights (set by p (254 - i)) (i + 1)
  next_weight p h n e =
      record {
        weight = λ j l.
            ⊎_elim
            (λ (q : j < i). get_or-set_other by p j (254 - i) 0 (λ (z : j ≡ p). omega arith) ∙ w.weight j q)
            (λ (q : i ≤ j).
            let m : p ≡ j = omega arith in
            let o : i ≡ j = omega arith in
            rw (m, o) (get_or-set_same by j (254 - j) 0 (omega arith)))
            (lt_or_ge j i);
      }

  pub all_weights : i ≤ 254 → 254 ≤ i → Weights by 254
  all_weights h g = let n : i ≡ 254 = omega arith in rw n at w

-- what the loop of `block_sums` is asked, over plain values
pub no_words : (b : List ℕ) → 0 ≡ first_total_lem b 0
unfolding first_total_lem
no_words b = refl

pub no_totals : (b : List ℕ) (m : ℕ) → 0 ≡ weighted b m 0
unfolding weighted
no_totals b m = refl

pub first_on : (b : List ℕ) (i : ℕ) {x v w : ℕ} → x ≡ first_total_lem b i → v ≡ word b (2 * i) → w ≡ v → x + w ≡ first_total_lem b (i + 1)
unfolding first_total_lem
first_on b i e f g = rw (add-one i, e, g, f)

pub second_on : (b by : List ℕ) (i : ℕ) {k x y v w : ℕ} → Weights by 254 → i < 254 → k ≡ get_or by i 0 → x ≡ weighted b 254 i → v ≡ word b (2 * i) → w ≡ v → y ≡ k * w → x + y ≡ weighted b 254 (i + 1)
unfolding weighted
second_on b by i {k} z h d e f g q = let n : k ≡ 254 - i = d ∙ z.weight i h in rw (add-one i, e, q, g, f, n)

-- a weight is small
pub weight_small : (by : List ℕ) (i : ℕ) {k : ℕ} → Weights by 254 → i < 254 → k ≡ get_or by i 0 → k ≤ 254
weight_small by i z h d = omega (arith, d ∙ z.weight i h)

pub first_done : (b : List ℕ) (i : ℕ) {x : ℕ} → i ≤ 254 → 254 ≤ i → x ≡ first_total_lem b i → x % 65521 ≡ first_to b 254
first_done b i h g e = let n : i ≡ 254 = omega arith in rw e (rw n (first_total b 254))

pub second_done : (b : List ℕ) (i : ℕ) {x : ℕ} → i ≤ 254 → 254 ≤ i → x ≡ weighted b 254 i → x % 65521 ≡ second_to b 254
second_done b i h g e = let n : i ≡ 254 = omega arith in rw e (rw (n, weighted_total) (second_total b 254))

pub weight_bound : (k w : ℕ) → k ≤ 254 → w ≤ 65535 → k * w ≤ 16645890
weight_bound k w h g = mul-le-mul h g

-- what the goals of this crate ask for
pub ruleset ways = (no_weights, next_weight, all_weights, no_words, no_totals, first_on, second_on, weight_small, first_done, second_done, weight_bound)
