-- Which numbers the checks of a file answer: 31 exactly where blocks pass and list and base do not stand, and never 29.
-- Assumes nothing.
use Prim.Native.Nat.{ℕ, zero, suc, ◌≤◌}
use native.Mathlib.Omega.{arith}
use mathlib.Core.Path.{◌≡◌, sym}
use mathlib.Core.Logic.{◌⊎◌, ⊎_elim}
use mathlib.Core.Bool.{Bool, true, false, cond}
use mathlib.Core.List.{List}
use lib.Dec.{eqb}
use lib.ListN.{length, take}
use borrow.Author.Tests.{eq-eqb, ne_eqb}
use Rattle.model.specs.Bytes.{same_bytes, blank}
use Rattle.model.specs.Block.{letters, sums_hold, header_holds, vector_in}
use Rattle.model.specs.File.{blocks_in, block_at, Fault, fault, or_else, file_length, file_records, checked_fault}
use Rattle.base_model.specs.Base.{empty_base, base_vector}
use Rattle.call_model.specs.Outcome.{whole_number}
use Rattle.run_model.specs.Runs.{letters2, block_fault_as}
use Rattle.run_model.specs.Blocks.{agrees_as, file_block_fault_as, blocks_fault_as}
use Rattle.sab2_model.specs.Sab2.{sab2_fits, said_rows, row_blocks, sab2_blocks_fault, sab2_rows, sab2_base, sab2_records, rows_stand, held_fault, sab2_fault, checked_sab2, is_sab2, either_fault}
use Rattle.sab2_model.specs.Calls.{or_converted, way_back, to_sab1_of}
use Rattle.byte_slice.proofs.Numbers.{bool_cases, eq_or_ne}
use Rattle.run_laws.proofs.Sab1.{blocks_fault_sab1}
use Rattle.held_laws.proofs.Held.{else_other, else_small, held_31, held_small, fault_sab1}
use Rattle.sab2_laws.proofs.Forms.{sab1_fault, sab2_fault_lem}

-- ---- the blocks: 3, 4, 5, 20 or 0

block_small : (t b : List ℕ) → block_fault_as t b ≤ 5
unfolding block_fault_as
block_small t b = small (same_bytes (take 4 b) t) (sums_hold b) (header_holds b)
  where
    small : (x y z : Bool) → cond {A = ℕ} x (cond y (cond z 0 5) 4) 3 ≤ 5
    small true true true = omega arith
    small true true false = omega arith
    small true false z = omega arith
    small false y z = omega arith

file_block_small : (t : List ℕ) (r : ℕ) (f : List ℕ) (k : ℕ) → file_block_fault_as t r f k ≤ 20
unfolding file_block_fault_as
file_block_small t r f k =
    small (eqb (block_fault_as t (block_at f k)) 0) (agrees_as r (blocks_in f) k (block_at f 0) (block_at f k)) (block_fault_as t (block_at f k)) (block_small t (block_at f k))
  where
    small : (x y : Bool) (n : ℕ) → n ≤ 5 → cond {A = ℕ} x (cond y 0 20) n ≤ 20
    small true true n h = omega arith
    small true false n h = omega arith
    small false y n h = omega arith

pub blocks_small : (t : List ℕ) (r : ℕ) (f : List ℕ) (n k : ℕ) → (blocks_fault_as t r f k n).number ≤ 26
unfolding blocks_fault_as fault
blocks_small t r f zero k = omega arith
blocks_small t r f (suc n) k =
    ⊎_elim
    (λ (h : eqb (file_block_fault_as t r f k) 0 ≡ true). rw h (blocks_small t r f n (suc k)))
    (λ (h : eqb (file_block_fault_as t r f k) 0 ≡ false). rw h (omega (arith, file_block_small t r f k)))
    (bool_cases (eqb (file_block_fault_as t r f k) 0))

-- ---- a file of SAB1

sab1_small : (f : List ℕ) → (checked_fault f).number ≤ 26
unfolding fault
sab1_small f =
    ⊎_elim
    (λ (a : file_length f ≡ true). rw (a, fault_sab1 f, blocks_fault_sab1 f (blocks_in f) 0)
    (else_small (blocks_fault_as letters 0 f 0 (blocks_in f)) (held_fault true empty_base 0 (blocks_in f) (vector_in (block_at f 0)) (file_records f)) 26
    (blocks_small letters 0 f (blocks_in f) 0) (held_small empty_base 0 (blocks_in f) (vector_in (block_at f 0)) (file_records f))))
    (λ (a : file_length f ≡ false). rw a (omega arith))
    (bool_cases (file_length f))

-- ---- a file of SAB2

module _ (f : List ℕ) where
  abbrev held : Bool → Fault
  held s = held_fault s (sab2_base f) (row_blocks f) (blocks_in f) (vector_in (block_at f 0)) (sab2_records f)

  sab2_blocks_small : (sab2_blocks_fault f).number ≤ 26
  unfolding sab2_blocks_fault
  sab2_blocks_small = blocks_small letters2 (said_rows f) f (blocks_in f) 0

  -- a number above those of blocks and records is answered where list and base are judged
  above : (n : ℕ) → 27 ≤ n → (checked_sab2 f).number ≡ n → (sab2_fits (length f) ≡ true) × ((sab2_blocks_fault f).number ≡ 0) × ((held (rows_stand (sab2_rows f))).number ≡ n)
  unfolding checked_sab2 sab2_fault fault
  above n h e =
      ⊎_elim
      (λ (a : sab2_fits (length f) ≡ true).
      let (x, y) = else_other (sab2_blocks_fault f) (held (rows_stand (sab2_rows f))) n (rw a at e) (λ z. omega (arith, sab2_blocks_small)) in
      (a, x, y))
      (λ (a : sab2_fits (length f) ≡ false). let z : 2 ≡ n = rw a at e in absurd (omega arith))
      (bool_cases (sab2_fits (length f)))

  unsound : (n : ℕ) → 27 ≤ n → (held (rows_stand (sab2_rows f))).number ≡ n → (rows_stand (sab2_rows f) ≡ false) × (n ≡ 31)
  unfolding fault
  unsound n h e =
      ⊎_elim
      (λ (a : rows_stand (sab2_rows f) ≡ true). absurd (omega (arith, (rw a at e), held_small (sab2_base f) (row_blocks f) (blocks_in f) (vector_in (block_at f 0)) (sab2_records f))))
      (λ (a : rows_stand (sab2_rows f) ≡ false).
      let z : (fault 31 0).number ≡ n = rw (a, held_31 (sab2_base f) (row_blocks f) (blocks_in f) (vector_in (block_at f 0)) (sab2_records f)) at e in
      (a, sym z))
      (bool_cases (rows_stand (sab2_rows f)))

  -- 31 at place 0 where the blocks pass and list and base do not stand
  pub unsound_31 : sab2_fits (length f) ≡ true → (sab2_blocks_fault f).number ≡ 0 → rows_stand (sab2_rows f) ≡ false → checked_sab2 f ≡ fault 31 0
  unfolding checked_sab2 sab2_fault or_else
  unsound_31 a b c = rw (a, eq-eqb (sab2_blocks_fault f).number 0 b, c) (held_31 (sab2_base f) (row_blocks f) (blocks_in f) (vector_in (block_at f 0)) (sab2_records f))

  -- and nowhere else
  pub only_31 : (checked_sab2 f).number ≡ 31 → (sab2_fits (length f) ≡ true) × ((sab2_blocks_fault f).number ≡ 0) × (rows_stand (sab2_rows f) ≡ false)
  only_31 e = let (a, b, c) = above 31 (omega arith) e in (a, b, (unsound 31 (omega arith) c).0)

  -- 29 is never answered by these checks
  pub not_29 : (checked_sab2 f).number ≡ 29 → ⊥
  not_29 e = let (a, b, c) = above 29 (omega arith) e in omega (arith, (unsound 29 (omega arith) c).1)

-- ---- either form

pub either_31 : (f : List ℕ) → (either_fault f).number ≡ 31 → (is_sab2 f ≡ true) × (sab2_fits (length f) ≡ true) × ((sab2_blocks_fault f).number ≡ 0) × (rows_stand (sab2_rows f) ≡ false)
either_31 f e =
    ⊎_elim
    (λ (a : is_sab2 f ≡ true). let (x, y, z) = only_31 f (rw (sab2_fault_lem f a) at e) in (a, x, y, z))
    (λ (a : is_sab2 f ≡ false). absurd (omega (arith, sab1_small f, (rw (sab1_fault f a) at e))))
    (bool_cases (is_sab2 f))

-- ---- the way back

-- a conversion answers the fault that it finds
converts : (n : ℕ) (e : Fault) (k : ℕ) (g lent : List ℕ) → length lent ≡ n → (or_converted n e k g lent).number ≡ e.number
unfolding or_converted
converts n e k g lent h =
    ⊎_elim
    (λ (z : e.number ≡ 0). rw (eq-eqb (length lent) n h, eq-eqb e.number 0 z) (sym z))
    (λ (z : e.number ≡ 0 → ⊥). rw (eq-eqb (length lent) n h, ne_eqb e.number 0 z))
    (eq_or_ne e.number 0)

pub back_number : (f lent : List ℕ) → length lent ≡ 44032 → (to_sab1_of f lent).number ≡ (way_back (checked_sab2 f) (base_vector (sab2_base f))).number
unfolding to_sab1_of
back_number f lent h = converts 44032 (way_back (checked_sab2 f) (base_vector (sab2_base f))) _ _ lent h

module _ (f : List ℕ) where
  pub way_29 : (checked_sab2 f).number ≡ 0 → blank (base_vector (sab2_base f)) ≡ false → way_back (checked_sab2 f) (base_vector (sab2_base f)) ≡ fault 29 0
  unfolding way_back or_else
  way_29 e b = rw (eq-eqb (checked_sab2 f).number 0 e, b)

  pub only_29 : (way_back (checked_sab2 f) (base_vector (sab2_base f))).number ≡ 29 → ((checked_sab2 f).number ≡ 0) × (blank (base_vector (sab2_base f)) ≡ false)
  unfolding way_back fault
  only_29 e =
      let (a, b) = else_other (checked_sab2 f) (fault (whole_number (base_vector (sab2_base f))) 0) 29 e (not_29 f) in (
        a,
        ⊎_elim
            (λ (h : blank (base_vector (sab2_base f)) ≡ true). let z : ◌≡◌ {A = ℕ} 0 29 = rw h at b in absurd (omega arith))
            (λ (h : blank (base_vector (sab2_base f)) ≡ false). h)
            (bool_cases (blank (base_vector (sab2_base f)))),
      )
