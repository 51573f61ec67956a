-- The first fault of records with a list, from the pass that knows no list and the first record of a unit that is not listed.
-- Assumes nothing.
use Rattle.std.specs.Prelude.{ℕ, zero, suc, cond, List, eqb}
use Rattle.model.specs.Record.{Rec, unit}
use Rattle.base_model.specs.Base.{is_listed}
use Rattle.sab2_model.specs.Sab2.{read_fault}
use Rattle.log_check.specs.InOrder.{before, Found, found}

-- the first fault of the n records from i on, behind a base vector v with the list m
unfoldable pub listed_fault : ℕ → List ℕ → (ℕ → Rec) → ℕ → ℕ → Found
listed_fault m v at i zero = found 0 0
listed_fault m v at i (suc n) =
    cond (eqb (read_fault m v (before at i) (at i)) 0) (listed_fault m v at (suc i) n) (found (read_fault m v (before at i) (at i)) i)

-- the first of the n records from i on of a unit that is not listed, or the one behind them
unfoldable pub unlisted_from : ℕ → (ℕ → Rec) → ℕ → ℕ → ℕ
unlisted_from m at i zero = i
unlisted_from m at i (suc n) = cond (is_listed m (unit (at i))) (unlisted_from m at (suc i) n) i

-- how many of n records the list is asked of: those before the first fault, and the one that has it, if it is well formed
unfoldable pub asked_to : Found → ℕ → ℕ
asked_to x n = cond (eqb x.number 0) n (cond (eqb x.number 7) x.at (suc x.at))
