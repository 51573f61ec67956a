-- A row taken in turn: one block more, the block that stops it, and the end.
-- Assumes nothing.
use Prim.Native.Nat.{ℕ, zero, suc, ◌+◌, ◌-◌, ◌*◌, ◌≤◌, ◌<◌}
use native.Mathlib.Nat.{sub-zero, zero-add}
use native.Mathlib.Numerals.{add-one}
use native.Mathlib.Omega.{arith}
use mathlib.Core.Path.{◌≡◌, refl, sym, ◌∙◌}
use mathlib.Core.Logic.{◌↔◌, ⊎_elim}
use mathlib.Core.Bool.{true}
use mathlib.Core.List.{List}
use lib.ListN.{length, take, drop}
use borrow.Author.Tests.{eq-eqb, ne_eqb}
use Rattle.model.specs.File.{blocks_in, block_at}
use Rattle.call_model.specs.Outcome.{outcome, take_of}
use Rattle.byte_slice.proofs.Numbers.{eq_or_ne}
use Rattle.byte_slice.proofs.Parts.{part_is}
use Rattle.call_laws.specs.Keeps.{Good}
use Rattle.call_laws.proofs.Calls.{good_guard, take-keeps}
use Rattle.row_model.specs.Row.{Tried, tried, row_fits, try_from, try_all, row_taken, take_row_of, reported, trial_lent, try_of}

-- ---- the blocks of a row

-- the bytes lent from a row are its block k
pub block_is : (row : List ℕ) (k : ℕ) → take (512 * k + 512 - 512 * k) (drop (512 * k) row) ≡ block_at row k
unfolding block_at
block_is row k = part_is row (512 * k) 512

pub block_inside : (row : List ℕ) (k n : ℕ) → n ≡ blocks_in row → k < n → 512 * k + 512 ≤ length row
unfolding blocks_in
block_inside row k n e h = omega arith

-- ---- the turns

pub turns_start : (archive u : ℕ) (base row log : List ℕ) (n : ℕ) → n ≡ blocks_in row → try_from archive u base row log 0 (n - 0) ≡ try_all archive u log base row
unfolding try_all
turns_start archive u base row log n e = rw (sub-zero n, e)

module _ (archive u : ℕ) (base row log : List ℕ) (k n : ℕ) (t : Tried) (q : try_from archive u base row log k (n - k) ≡ t) where
  pub turns_end : k ≤ n → n ≤ k → tried n 0 log ≡ t
  unfolding try_from
  turns_end h g = let e : n - k ≡ 0 = omega arith in let f : k ≡ n = omega arith in (rw f) ∙ (rw e at q)

  module _ (h : k < n) (a p : ℕ) (log' lent : List ℕ) (c : ℕ) (b : List ℕ) (e : outcome a p log' lent c ≡ take_of archive u log base b) (f : b ≡ block_at row k) where
    number_is : (take_of archive u log base (block_at row k)).number ≡ a
    number_is = rw (← f, ← e)

    log_is : (take_of archive u log base (block_at row k)).log ≡ log'
    log_is = rw (← f, ← e)

    more : n - k ≡ suc (n - (k + 1))
    more = omega arith

    pub turn_stops : (a ≡ 0 → ⊥) → tried k a log' ≡ t
    unfolding try_from
    turn_stops z =
        let s : log' ≡ log = sym log_is ∙ ((take-keeps archive u log base (block_at row k)).refused (rw number_is z)).0 in
        (rw s) ∙ (rw (more, number_is, ne_eqb a 0 z) at q)

    pub turn_goes : a ≡ 0 → try_from archive u base row log' (k + 1) (n - (k + 1)) ≡ t
    unfolding try_from
    turn_goes z = rw (add-one k) (rw (more, number_is, log_is, z, add-one k) at q)

-- ---- no more blocks are taken than there are

taken_most : (archive u : ℕ) (base row log : List ℕ) (k n : ℕ) → (try_from archive u base row log k n).taken ≤ k + n
unfolding try_from
taken_most archive u base row log k zero = omega arith
taken_most archive u base row log k (suc n) =
    ⊎_elim
    (λ (z : (take_of archive u log base (block_at row k)).number ≡ 0). rw (eq-eqb (take_of archive u log base (block_at row k)).number 0 z) (omega (arith, taken_most archive u base row (take_of archive u log base (block_at row k)).log (suc k) n)))
    (λ (z : (take_of archive u log base (block_at row k)).number ≡ 0 → ⊥). rw (ne_eqb (take_of archive u log base (block_at row k)).number 0 z) (omega arith))
    (eq_or_ne (take_of archive u log base (block_at row k)).number 0)

pub taken_few : (archive u : ℕ) (log base row : List ℕ) → (try_all archive u log base row).taken ≤ blocks_in row
unfolding try_all
taken_few archive u log base row = omega (arith, taken_most archive u base row log 0 (blocks_in row))

-- ---- a row is taken whole exactly if nothing stops it

whole_from : (archive u : ℕ) (base row log : List ℕ) (k n : ℕ) → ((try_from archive u base row log k n).stopped ≡ 0) ↔ ((try_from archive u base row log k n).taken ≡ k + n)
unfolding try_from
whole_from archive u base row log k zero = (λ e. omega arith, λ e. refl)
whole_from archive u base row log k (suc n) =
    ⊎_elim
    (λ (z : (take_of archive u log base (block_at row k)).number ≡ 0).
    let w = whole_from archive u base row (take_of archive u log base (block_at row k)).log (suc k) n in
    let s : k + suc n ≡ suc k + n = omega arith in
    rw (eq-eqb (take_of archive u log base (block_at row k)).number 0 z, s) w)
    (λ (z : (take_of archive u log base (block_at row k)).number ≡ 0 → ⊥).
    rw (ne_eqb (take_of archive u log base (block_at row k)).number 0 z) (λ e. absurd (z e), λ e. absurd (omega arith)))
    (eq_or_ne (take_of archive u log base (block_at row k)).number 0)

pub whole_row : (archive u : ℕ) (log base row : List ℕ) → ((try_all archive u log base row).stopped ≡ 0) ↔ ((try_all archive u log base row).taken ≡ blocks_in row)
unfolding try_all
whole_row archive u log base row = rw (zero-add (blocks_in row)) at (whole_from archive u base row log 0 (blocks_in row))

-- ---- the calls

-- the checks 1, 21, 2 and 19 pass
pub row-passes : (archive u : ℕ) (log base row : List ℕ) → u ≤ 7 → Good log base → row_fits (length row) ≡ true
    → take_row_of archive u log base row
    ≡ row_taken 0 0 (try_all archive u log base row).taken (try_all archive u log base row).stopped (try_all archive u log base row).log
unfolding take_row_of
row-passes archive u log base row h g f = rw (good_guard u log base true (row_fits (length row)) refl h f g)

-- and so of a trial
pub try_passes : (archive u : ℕ) (log base row copy tree report : List ℕ) → u ≤ 7 → Good log base → trial_lent copy tree report ≡ true → row_fits (length row) ≡ true
    → try_of archive u log base row copy tree report ≡ reported log base (try_all archive u log base row)
unfolding try_of
try_passes archive u log base row copy tree report h g l f = rw (good_guard u log base (trial_lent copy tree report) (row_fits (length row)) l h f g)
