-- A unit is listed by its bit; all units that a vector counts; the fields of a head.
-- Assumes nothing.
use Prim.Native.Nat.{ℕ, zero, suc, ◌+◌, ◌/◌, ◌%◌, ◌≤◌, ◌<◌}
use native.Mathlib.Omega.{arith}
use mathlib.Core.Path.{◌≡◌, refl, ap}
use mathlib.Core.Bool.{Bool, true, ◌&&◌, ◌||◌}
use mathlib.Core.List.{List}
use lib.Dec.{eqb}
use lib.ListN.{get_or}
use Rattle.model.specs.Bytes.{word}
use Rattle.model.specs.Vector.{vector_at}
use Rattle.model.specs.Log.{all_to}
use Rattle.base_model.specs.Base.{bits, is_listed, lists_all, base_vector}
use Rattle.base_links.proofs.Links.{all_next, all_ends, all_none}
use Rattle.base_head.specs.Head.{BaseHead, headed, head_of, bit_numbers}

-- ---- a bit

bit_is : (m u : ℕ) → u < 8 → m / get_or bit_numbers u 0 % 2 ≡ get_or (bits 8 m) u 0
unfolding bits
bit_is m zero h = omega arith
bit_is m (suc zero) h = refl
bit_is m (suc (suc zero)) h = omega arith
bit_is m (suc (suc (suc zero))) h = omega arith
bit_is m (suc (suc (suc (suc zero)))) h = omega arith
bit_is m (suc (suc (suc (suc (suc zero))))) h = omega arith
bit_is m (suc (suc (suc (suc (suc (suc zero)))))) h = omega arith
bit_is m (suc (suc (suc (suc (suc (suc (suc zero))))))) h = omega arith
bit_is m (suc (suc (suc (suc (suc (suc (suc (suc u)))))))) h = absurd (omega arith)

-- none is zero, so that one may divide by it
pub bit_some : (u : ℕ) → u < 8 → 0 < get_or bit_numbers u 0
bit_some zero h = omega arith
bit_some (suc zero) h = omega arith
bit_some (suc (suc zero)) h = omega arith
bit_some (suc (suc (suc zero))) h = omega arith
bit_some (suc (suc (suc (suc zero)))) h = omega arith
bit_some (suc (suc (suc (suc (suc zero))))) h = omega arith
bit_some (suc (suc (suc (suc (suc (suc zero)))))) h = omega arith
bit_some (suc (suc (suc (suc (suc (suc (suc zero))))))) h = omega arith
bit_some (suc (suc (suc (suc (suc (suc (suc (suc u)))))))) h = absurd (omega arith)

pub listed_is : (m u : ℕ) → u < 8 → eqb (m / get_or bit_numbers u 0 % 2) 1 ≡ is_listed m u
unfolding is_listed
listed_is m u h = rw (bit_is m u h)

-- ---- all units

-- the unit u is listed, or has no record
abbrev pub passes : ℕ → List ℕ → ℕ → Bool
passes m v u = eqb (get_or v u 0) 0 || is_listed m u

module _ (m : ℕ) (v : List ℕ) where
  pub units_next : (u : ℕ) {t s : Bool} → t ≡ all_to u (passes m v) → s ≡ is_listed m u → (t && (eqb (get_or v u 0) 0 || s)) ≡ all_to (u + 1) (passes m v)
  units_next u e f = all_next (passes m v) u e (rw f)

  pub units_end : (u : ℕ) {t : Bool} → u ≤ 8 → 8 ≤ u → t ≡ all_to u (passes m v) → t ≡ lists_all m v
  unfolding lists_all
  units_end u h g e = all_ends (passes m v) u 8 h g e

  pub units_start : true ≡ all_to 0 (passes m v)
  units_start = all_none (passes m v)

-- ---- the head

pub head_is : (b : List ℕ) {n k : ℕ} {v : List ℕ} → v ≡ vector_at b 8 → n ≡ word b 2 → k ≡ word b 4 → headed (get_or b 0 0) v n k ≡ head_of b
unfolding head_of base_vector
head_is b f g h = λ i. headed (get_or b 0 0) (f i) (g i) (h i)

module _ (b : List ℕ) {m n k : ℕ} {v : List ℕ} (e : headed m v n k ≡ head_of b) where
  pub head_list : m ≡ get_or b 0 0
  unfolding head_of
  head_list = ap (λ (x : BaseHead). x.list) e

  pub head_folded : v ≡ base_vector b
  unfolding head_of
  head_folded = ap (λ (x : BaseHead). x.folded) e

  pub head_entries : n ≡ word b 2
  unfolding head_of
  head_entries = ap (λ (x : BaseHead). x.entries) e

  pub head_asides : k ≡ word b 4
  unfolding head_of
  head_asides = ap (λ (x : BaseHead). x.asides) e
