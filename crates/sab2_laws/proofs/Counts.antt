-- Counts of blocks: those of rows, and those of records behind rows.
-- Assumes nothing.
use Prim.Native.Nat.{ℕ, ◌+◌, ◌*◌, ◌/◌, ◌%◌, ◌≤◌, ◌<◌}
use native.Mathlib.Omega.{arith}
use mathlib.Core.Path.{◌≡◌}
use mathlib.Core.Logic.{inl, ⊎_elim}
use mathlib.Core.Bool.{true, false, ◌&&◌}
use mathlib.Core.List.{List}
use lib.Dec.{leb, eqb}
use lib.ListN.{length}
use borrow.Author.Tests.{eqb-true, leb-true, eq-eqb, ne_eqb, le-leb, lt-leb}
use Rattle.model.specs.Vector.{blocks_for}
use Rattle.model.specs.Record.{Rec}
use Rattle.model.specs.File.{blocks_in}
use Rattle.sab2_model.specs.Rows.{row_count, rows_said}
use Rattle.sab2_model.specs.Sab2.{sab2_fits}
use Rattle.byte_slice.proofs.Numbers.{eq_or_ne, and_true, and_wrong}
use Rattle.run_laws.specs.Fits.{Holds}

-- behind rows, as many blocks as the records ask for hold them
pub for_holds : (r m : ℕ) → 1 ≤ r → Holds r m (blocks_for m)
unfolding blocks_for
for_holds r m h = record { some = omega arith; all = omega arith; tight = inl (omega arith) }

pub holds_for : (r m q : ℕ) → 1 ≤ r → Holds r m q → blocks_for m ≡ q
unfolding blocks_for
holds_for r m q h H = ⊎_elim (λ (x : 6 * q < m + 6). omega (arith, H.all)) (λ (x : (r ≡ 0) × (q ≡ 1)). absurd (omega (arith, x.0))) H.tight

-- 599 rows in 100 blocks, 512 records in 86
pub few_row_blocks : (n : ℕ) → 1 ≤ n → n ≤ 599 → (1 ≤ blocks_for n) × (blocks_for n ≤ 100)
unfolding blocks_for
few_row_blocks n a b = (omega arith, omega arith)

pub few_record_blocks : (n : ℕ) → n ≤ 512 → blocks_for n ≤ 86
unfolding blocks_for
few_record_blocks n b = omega arith

-- the head is a row
pub some_said : (r : Rec) → 1 ≤ rows_said r
unfolding rows_said row_count
some_said r = omega arith

-- ---- the length of a file

pub fits_test : (n k : ℕ) → n ≡ 512 * k → 1 ≤ k → k ≤ 186 → sab2_fits n ≡ true
unfolding sab2_fits
fits_test n k e a b =
    let q : n / 512 ≡ k = omega arith in
    rw (eq-eqb (n % 512) 0 (omega arith), q, le-leb 1 k a, le-leb k 186 b)

pub fits_from : (f : List ℕ) → sab2_fits (length f) ≡ true → (length f ≡ 512 * blocks_in f) × (1 ≤ blocks_in f) × (blocks_in f ≤ 186)
unfolding sab2_fits blocks_in
fits_from f e =
    let (x, y) = and_true (eqb (length f % 512) 0) (leb 1 (length f / 512) && leb (length f / 512) 186) e in
    let (z, w) = and_true (leb 1 (length f / 512)) (leb (length f / 512) 186) y in
    (omega (arith, eqb-true (length f % 512) 0 x), leb-true 1 (length f / 512) z, leb-true (length f / 512) 186 w)

pub too_long : (n : ℕ) → 95232 < n → sab2_fits n ≡ false
unfolding sab2_fits
too_long n h =
    ⊎_elim
    (λ (e : n % 512 ≡ 0). rw (lt-leb (n / 512) 186 (omega arith), and_wrong (leb 1 (n / 512))) (and_wrong (eqb (n % 512) 0)))
    (λ (e : n % 512 ≡ 0 → ⊥). rw (ne_eqb (n % 512) 0 e))
    (eq_or_ne (n % 512) 0)
