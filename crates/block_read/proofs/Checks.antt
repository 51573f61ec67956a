-- The ways out of the checks of a block, over plain values.
-- Assumes nothing.
use Prim.Native.Nat.{ℕ, ◌+◌, ◌-◌, ◌*◌, ◌≤◌, ◌<◌}
use native.Mathlib.Omega.{arith}
use mathlib.Core.Path.{◌≡◌}
use mathlib.Core.Bool.{Bool, true, false, not}
use mathlib.Core.List.{List}
use lib.Dec.{leb, eqb}
use lib.ListN.{take, drop}
use borrow.Author.Tests.{eq-eqb, ne_eqb, le-leb, lt-leb, not-true, not-false}
use Rattle.model.specs.Bytes.{word, same_bytes, blank, part}
use Rattle.model.specs.Block.{letters, first_to, second_to, sender_in, count_in, sums_hold, header_holds, block_fault}
use Rattle.run_model.specs.Runs.{block_fault_as}

-- ---- the sums

module _ (b : List ℕ) {p f : ℕ} (e : p ≡ word b 508) (g : f ≡ first_to b 254) where
  pub first_off : (p ≡ f → ⊥) → eqb p f ≡ sums_hold b
  unfolding sums_hold
  first_off d = rw (← e, ← g, ne_eqb p f d)

  pub second_decides : {q s : ℕ} → p ≡ f → q ≡ word b 510 → s ≡ second_to b 254 → eqb q s ≡ sums_hold b
  unfolding sums_hold
  second_decides d h k = rw (← e, ← g, eq-eqb p f d, h, k)

-- ---- the header

module _ (b : List ℕ) {u : ℕ} (e : u ≡ sender_in b) where
  pub bad_sender : 7 < u → leb u 7 ≡ header_holds b
  unfolding header_holds
  bad_sender h = rw (← e, lt-leb u 7 h)

  pub bad_count : {n : ℕ} → u ≤ 7 → n ≡ count_in b → 6 < n → leb n 6 ≡ header_holds b
  unfolding header_holds
  bad_count {n} h g k = rw (← e, le-leb u 7 h, ← g, lt-leb n 6 k)

  pub unused_decides : {n m : ℕ} {t : Bool} → u ≤ 7 → n ≡ count_in b → n ≤ 6 → m ≡ n → t ≡ blank (take (508 - (28 + 80 * m)) (drop (28 + 80 * m) b)) → t ≡ header_holds b
  unfolding header_holds part
  unused_decides {n} h g k same q = let rest : 480 - 80 * n ≡ 508 - (28 + 80 * n) = omega arith in rw (← e, le-leb u 7 h, ← g, le-leb n 6 k, rest) (rw same at q)

-- ---- all three

module _ (a b : List ℕ) {t : Bool} (e : t ≡ same_bytes (take 4 b) a) where
  pub bad_letters_lem : not t ≡ true → 3 ≡ block_fault_as a b
  unfolding block_fault_as
  bad_letters_lem h = rw (← e, not-true t h)

  module _ {s : Bool} (h : not t ≡ false) (f : s ≡ sums_hold b) where
    pub bad_sum_lem : not s ≡ true → 4 ≡ block_fault_as a b
    unfolding block_fault_as
    bad_sum_lem g = rw (← e, not-false t h, ← f, not-true s g)

    pub bad_header_lem : {r : Bool} → not s ≡ false → r ≡ header_holds b → not r ≡ true → 5 ≡ block_fault_as a b
    unfolding block_fault_as
    bad_header_lem {r} g k q = rw (← e, not-false t h, ← f, not-false s g, ← k, not-true r q)

    pub no_fault : {r : Bool} → not s ≡ false → r ≡ header_holds b → not r ≡ false → 0 ≡ block_fault_as a b
    unfolding block_fault_as
    no_fault {r} g k q = rw (← e, not-false t h, ← f, not-false s g, ← k, not-false r q)

-- the letters SAB1 are a case
pub fault_sab1 : (b : List ℕ) {n : ℕ} → n ≡ block_fault_as letters b → n ≡ block_fault b
unfolding block_fault_as block_fault
fault_sab1 b e = e

-- what the goals of this crate ask for
pub ruleset ways = (first_off, second_decides, bad_sender, bad_count, unused_decides, bad_letters_lem, bad_sum_lem, bad_header_lem, no_fault, fault_sab1)
