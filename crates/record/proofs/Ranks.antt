-- The rank as the sum that the code adds up, and how large the numbers of a record are.
-- Assumes nothing.
use Prim.Native.Nat.{ℕ, zero, suc, ◌+◌, ◌*◌, ◌≤◌, ◌<◌}
use native.Mathlib.Numerals.{add-one}
use native.Mathlib.Omega.{arith}
use mathlib.Core.Path.{◌≡◌}
use lib.ListN.{get_or}
use Rattle.model.specs.Bytes.{word}
use Rattle.model.specs.Record.{Rec, unit, num, seen}
use Rattle.model.specs.Log.{sum_to, rank}
use Rattle.byte_slice.proofs.Words.{word_bound}

pub sum-next : (r : Rec) (u : ℕ) {a s w : ℕ} → a ≡ sum_to u (seen r) → w ≡ s → s ≡ word r (4 + 2 * u) → a + w ≡ sum_to (u + 1) (seen r)
unfolding seen
sum-next r u e f g = rw (add-one u, e, f, g)

pub rank-sum : (r : Rec) (u : ℕ) {a w : ℕ} → u ≤ 8 → 8 ≤ u → a ≡ sum_to u (seen r) → w ≡ get_or r 0 0 → 8 * a + w ≡ rank r
unfolding rank unit
rank-sum r u h g e f = let n : u ≡ 8 = omega arith in rw (e, n, f)

-- ---- bounds, where every byte is below 256

module _ (r : Rec) (b : (i : ℕ) → get_or r i 0 < 256) where
  pub unit_bound : unit r < 256
  unfolding unit
  unit_bound = b 0

  pub num_bound : num r < 65536
  unfolding num
  num_bound = word_bound r 2 b

  pub seen_bound : (u : ℕ) → seen r u < 65536
  unfolding seen
  seen_bound u = word_bound r (4 + 2 * u) b

  sum_bound : (n : ℕ) → sum_to n (seen r) ≤ 65535 * n
  sum_bound zero = omega arith
  sum_bound (suc n) = omega (arith, sum_bound n, seen_bound n)

  pub rank_bound : rank r < 4194560
  unfolding rank
  rank_bound = omega (arith, sum_bound 8, unit_bound)
