-- Line behind line: the turns of the loops over units and pairs.
-- Assumes nothing.
use Prim.Native.Nat.{ℕ, suc, ◌+◌, ◌-◌, ◌≤◌, ◌<◌}
use native.Mathlib.Numerals.{add-one}
use native.Mathlib.Omega.{arith}
use mathlib.Core.Path.{◌≡◌, refl}
use mathlib.Core.List.{List, ◌++◌}
use lib.ListN.{length}
use Rattle.model.specs.Vector.{compare_of}
use Rattle.line_text.specs.Written.{Wrote}
use Rattle.line_tree.proofs.Turns.{line_fits, wrote_line}
use Rattle.plan_model.specs.Plan.{true_vector, unit_line, pair_line, unit_lines, pairs_of, pair_lines}

-- ---- the units

units_grow : (s : List ℕ) (n : ℕ) → unit_lines s (suc n) ≡ unit_lines s n ++ unit_line n (true_vector s n)
unfolding unit_lines
units_grow s n = refl

module _ (s a b : List ℕ) (at m i n : ℕ) {v : List ℕ} (room : at + length (unit_lines s n) ≤ length a) (so_far : Wrote a b at m (unit_lines s i)) (lt : i < n) (e : v ≡ true_vector s i) where
  pub unit_line_fits : m + length (unit_line i v) ≤ length b
  unit_line_fits = rw e (line_fits (unit_lines s) (λ k. unit_line k (true_vector s k)) (units_grow s) a b at m i n room so_far lt)

  pub wrote_next_unit : {c : List ℕ} {r : ℕ} → Wrote b c m r (unit_line i v) → Wrote a c at r (unit_lines s (i + 1))
  wrote_next_unit x = wrote_line (unit_lines s) (λ k. unit_line k (true_vector s k)) (units_grow s) a b at m i n room so_far lt (rw e at x)

pub wrote_all_units : (s a b : List ℕ) (at r i n : ℕ) → Wrote a b at r (unit_lines s i) → i ≤ n → n ≤ i → Wrote a b at r (unit_lines s n)
wrote_all_units s a b at r i n w h l = let e : i ≡ n = omega arith in rw e at w

-- ---- the pairs of a unit

pairs_grow : (s : List ℕ) (u n : ℕ) → pairs_of s u (suc n) ≡ pairs_of s u n ++ pair_line u (u + suc n) (compare_of (true_vector s u) (true_vector s (u + suc n)))
unfolding pairs_of
pairs_grow s u n = refl

module _ (s a b : List ℕ) (at m u i n : ℕ) {k : ℕ} (room : at + length (pairs_of s u n) ≤ length a) (so_far : Wrote a b at m (pairs_of s u i)) (lt : i < n)
    (e : k ≡ compare_of (true_vector s u) (true_vector s (u + (i + 1)))) where
  pub pair_line_fits : m + length (pair_line u (u + (i + 1)) k) ≤ length b
  pair_line_fits =
      rw (e, add-one i) (line_fits (pairs_of s u) (λ j. pair_line u (u + suc j) (compare_of (true_vector s u) (true_vector s (u + suc j)))) (pairs_grow s u) a b at m i n room so_far lt)

  pub wrote_next_pair : {c : List ℕ} {r : ℕ} → Wrote b c m r (pair_line u (u + (i + 1)) k) → Wrote a c at r (pairs_of s u (i + 1))
  wrote_next_pair x =
      wrote_line (pairs_of s u) (λ j. pair_line u (u + suc j) (compare_of (true_vector s u) (true_vector s (u + suc j)))) (pairs_grow s u) a b at m i n room so_far lt (rw (e, add-one i) at x)

pub wrote_all_pairs : (s a b : List ℕ) (at r u i n : ℕ) → Wrote a b at r (pairs_of s u i) → i ≤ n → n ≤ i → Wrote a b at r (pairs_of s u n)
wrote_all_pairs s a b at r u i n w h l = let e : i ≡ n = omega arith in rw e at w

-- ---- the pairs of the units

pair_lines_grow : (s : List ℕ) (n : ℕ) → pair_lines s (suc n) ≡ pair_lines s n ++ pairs_of s n (7 - n)
unfolding pair_lines
pair_lines_grow s n = refl

module _ (s a b : List ℕ) (at m i n : ℕ) (room : at + length (pair_lines s n) ≤ length a) (so_far : Wrote a b at m (pair_lines s i)) (lt : i < n) where
  pub pairs_of_fit : m + length (pairs_of s i (7 - i)) ≤ length b
  pairs_of_fit = line_fits (pair_lines s) (λ k. pairs_of s k (7 - k)) (pair_lines_grow s) a b at m i n room so_far lt

  pub wrote_next_pairs : {c : List ℕ} {r : ℕ} → Wrote b c m r (pairs_of s i (7 - i)) → Wrote a c at r (pair_lines s (i + 1))
  wrote_next_pairs x = wrote_line (pair_lines s) (λ k. pairs_of s k (7 - k)) (pair_lines_grow s) a b at m i n room so_far lt x

pub wrote_all_pair_lines : (s a b : List ℕ) (at r i n : ℕ) → Wrote a b at r (pair_lines s i) → i ≤ n → n ≤ i → Wrote a b at r (pair_lines s n)
wrote_all_pair_lines s a b at r i n w h l = let e : i ≡ n = omega arith in rw e at w
