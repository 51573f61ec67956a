-- What holds of a block in which no fault is found.
-- Assumes nothing.
use Prim.Native.Nat.{ℕ, ◌+◌, ◌-◌, ◌*◌, ◌≤◌}
use native.Mathlib.Omega.{arith}
use mathlib.Core.Path.{◌≡◌, refl}
use mathlib.Core.Bool.{Bool, true, false, cond}
use mathlib.Core.List.{List}
use lib.Dec.{leb, eqb}
use lib.ListN.{take}
use borrow.Author.Tests.{leb-true, eqb-true}
use Rattle.model.specs.Bytes.{word, same_bytes, blank, part}
use Rattle.model.specs.Block.{letters, first_to, second_to, sender_in, count_in, sums_hold, header_holds, block_fault}
use Rattle.run_model.specs.Runs.{block_fault_as}
use Rattle.byte_slice.proofs.Numbers.{and_true}

-- the three tests passed
passed : (r s t : Bool) → cond {A = ℕ} r (cond s (cond t 0 5) 4) 3 ≡ 0 → (r ≡ true) × (s ≡ true) × (t ≡ true)
passed true true true e = (refl, refl, refl)
passed true true false e = absurd (omega arith)
passed true false t e = absurd (omega arith)
passed false s t e = absurd (omega arith)

-- of a block with the letters t
pub three_passed : (t b : List ℕ) → block_fault_as t b ≡ 0 → (same_bytes (take 4 b) t ≡ true) × (sums_hold b ≡ true) × (header_holds b ≡ true)
unfolding block_fault_as
three_passed t b e = passed (same_bytes (take 4 b) t) (sums_hold b) (header_holds b) e

-- of a block of SAB1
pub fault_sab1 : (b : List ℕ) → block_fault b ≡ block_fault_as letters b
unfolding block_fault block_fault_as
fault_sab1 b = refl

module _ (b : List ℕ) (e : block_fault b ≡ 0) where
  pub sums_right : sums_hold b ≡ true
  sums_right = (three_passed letters b (rw fault_sab1 at e)).1

  pub header_right : header_holds b ≡ true
  header_right = (three_passed letters b (rw fault_sab1 at e)).2

pub stored_sums : (b : List ℕ) → sums_hold b ≡ true → (word b 508 ≡ first_to b 254) × (word b 510 ≡ second_to b 254)
unfolding sums_hold
stored_sums b e =
    let (p, q) = and_true (eqb (word b 508) (first_to b 254)) (eqb (word b 510) (second_to b 254)) e in
    (eqb-true (word b 508) (first_to b 254) p, eqb-true (word b 510) (second_to b 254) q)

pub stored_header : (b : List ℕ) → header_holds b ≡ true → (sender_in b ≤ 7) × (count_in b ≤ 6) × (blank (part b (28 + 80 * count_in b) (480 - 80 * count_in b)) ≡ true)
unfolding header_holds
stored_header b e =
    let (p, q) = and_true (leb (sender_in b) 7) _ e in
    let (r, s) = and_true (leb (count_in b) 6) (blank (part b (28 + 80 * count_in b) (480 - 80 * count_in b))) q in
    (leb-true (sender_in b) 7 p, leb-true (count_in b) 6 r, s)
