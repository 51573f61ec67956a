-- The table of label bytes is right: one test over the whole table.
-- Assumes nothing.
use Prim.Native.Nat.{ℕ, zero, suc, ◌<◌}
use native.Mathlib.Omega.{arith}
use mathlib.Core.Path.{◌≡◌, refl, sym, ◌∙◌}
use mathlib.Core.Bool.{Bool, true, false, cond, ◌&&◌}
use mathlib.Core.Logic.{⊎_elim}
use mathlib.Core.List.{List}
use lib.Dec.{eqb}
use lib.ListN.{get_or, length}
use borrow.Author.Tests.{eqb-true}
use Rattle.byte_slice.proofs.Numbers.{eq_or_ne, and_true}
use Rattle.act_bytes.specs.Table.{may_stand, Right}

-- each of the first n numbers is as it should be
unfoldable pub right_to : List ℕ → ℕ → Bool
right_to t zero = true
right_to t (suc n) = right_to t n && eqb (get_or t n 0) (cond (may_stand n) 1 0)

right-at : (t : List ℕ) (n : ℕ) → right_to t n ≡ true → (x : ℕ) → x < n → get_or t x 0 ≡ cond (may_stand x) 1 0
unfolding right_to
right-at t zero e x h = absurd (omega arith)
right-at t (suc n) e x h =
    let (a, b) = and_true (right_to t n) (eqb (get_or t n 0) (cond (may_stand n) 1 0)) e in
    ⊎_elim
    (λ (q : x ≡ n). rw q (eqb-true (get_or t n 0) (cond (may_stand n) 1 0) b))
    (λ (q : x ≡ n → ⊥). right-at t n a x (omega arith))
    (eq_or_ne x n)

-- a table of 256 numbers that passes the test is right
pub table-right : (t : List ℕ) → length t ≡ 256 → right_to t 256 ≡ true → Right t
table-right t n e = record { long = n; at = right-at t 256 e }

-- what a right table says of a byte
pub table_tells : (t : List ℕ) (x : ℕ) → Right t → x < 256 → eqb (get_or t x 0) 1 ≡ may_stand x
table_tells t x w h = rw (w.at x h) (go (may_stand x))
  where
    go : (b : Bool) → eqb (cond b 1 0) 1 ≡ b
    go true = refl
    go false = refl
