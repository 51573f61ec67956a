-- How many rows there are, and where each stands, over plain numbers.
-- Assumes nothing.
use Prim.Native.Nat.{ℕ, suc, ◌+◌, ◌-◌, ◌*◌, ◌/◌, ◌≤◌, ◌<◌, min}
use native.Mathlib.Omega.{arith}
use mathlib.Core.Path.{◌≡◌}
use mathlib.Core.Bool.{Bool, true, false, cond}
use lib.Dec.{leb, eqb}
use borrow.Author.Tests.{eq-eqb, ne_eqb, le-leb, lt-leb}
use Rattle.model.specs.Vector.{blocks_for}
use Rattle.sab2_model.specs.Rows.{row_count, row_start, row_long}

pub rows_counted : (e a : ℕ) → 1 + e + (a + 5) / 6 ≡ row_count e a
unfolding row_count blocks_for
rows_counted e a = omega arith

-- ---- the head

pub head_start : (e i : ℕ) → i ≡ 0 → 0 ≡ row_start e i
unfolding row_start
head_start e i h = rw (eq-eqb i 0 h)

pub head_long : (e a i : ℕ) → i ≡ 0 → 24 ≡ row_long e a i
unfolding row_long
head_long e a i h = rw (eq-eqb i 0 h)

-- ---- an entry

pub entry_start : (e i : ℕ) → (i ≡ 0 → ⊥) → i ≤ e → 24 + 72 * (i - 1) ≡ row_start e i
unfolding row_start
entry_start e i h g = rw (ne_eqb i 0 h, le-leb i e g)

pub entry-long : (e a i : ℕ) → (i ≡ 0 → ⊥) → i ≤ e → 72 ≡ row_long e a i
unfolding row_long
entry-long e a i h g = rw (ne_eqb i 0 h, le-leb i e g)

-- ---- six asides, or as many as are left

shorter : (n : ℕ) → n < 72 → n ≡ min 72 n
shorter n h = omega arith

longer : (n : ℕ) → 72 ≤ n → 72 ≡ min 72 n
longer n h = omega arith

pub aside_start : (e i : ℕ) → (i ≡ 0 → ⊥) → e < i → 36888 + 72 * (i - e - 1) ≡ row_start e i
unfolding row_start
aside_start e i h g = let m : i - e - 1 ≡ i - suc e = omega arith in rw (ne_eqb i 0 h, lt-leb i e g, m)

pub aside_short : (e a i : ℕ) → (i ≡ 0 → ⊥) → e < i → 12 * a - 72 * (i - e - 1) < 72 → 12 * a - 72 * (i - e - 1) ≡ row_long e a i
unfolding row_long
aside_short e a i h g k = let m : i - e - 1 ≡ i - suc e = omega arith in rw (ne_eqb i 0 h, lt-leb i e g, m) (shorter (12 * a - 72 * (i - suc e)) (rw m at k))

pub aside-long : (e a i : ℕ) → (i ≡ 0 → ⊥) → e < i → 72 ≤ 12 * a - 72 * (i - e - 1) → 72 ≡ row_long e a i
unfolding row_long
aside-long e a i h g k = let m : i - e - 1 ≡ i - suc e = omega arith in rw (ne_eqb i 0 h, lt-leb i e g) (longer (12 * a - 72 * (i - suc e)) (rw m at k))

-- an aside of the row is left
pub aside-left : (e a i : ℕ) → i < row_count e a → e < i → 72 * (i - e - 1) < 12 * a
unfolding row_count blocks_for
aside-left e a i h g = omega arith

-- a row has at most 72 bytes
pub row_short : (e a i : ℕ) → row_long e a i ≤ 72
unfolding row_long
row_short e a i = go (eqb i 0) (leb i e) (12 * a - 72 * (i - suc e))
  where
    go : (b c : Bool) (m : ℕ) → cond b 24 (cond c 72 (min 72 m)) ≤ 72
    go true c m = omega arith
    go false true m = omega arith
    go false false m = omega arith
