-- What each unit has heard as rows of counts, and the run that all listed units have heard of by one vector.
-- Assumes nothing.
use Rattle.std.specs.Prelude.{ℕ, zero, suc, cond, List, [], ◌∷◌, ◌++◌, ltb, leb, get_or}
use Rattle.model.specs.Record.{Rec, unit, num}
use Rattle.base_model.specs.Base.{is_listed}
use Rattle.call_model.specs.Fold.{heard_by}

-- f 0, .., f (n - 1)
unfoldable pub rows_to : ℕ → (ℕ → List ℕ) → List (List ℕ)
rows_to zero f = []
rows_to (suc n) f = rows_to n f ++ (f n ∷ [])

-- what each of the eight units has heard, as the unit u can tell, one row a unit [F134]
unfoldable pub heard_rows : ℕ → List ℕ → List Rec → List (List ℕ)
heard_rows u v l = rows_to 8 (heard_by u v l)

unfoldable pub lower_of : ℕ → ℕ → ℕ
lower_of a b = cond (ltb a b) a b

-- of the first n units the lower of two counts
unfoldable pub lowers_to : List ℕ → List ℕ → ℕ → List ℕ
lowers_to a b zero = []
lowers_to a b (suc n) = lowers_to a b n ++ (lower_of (get_or a n 0) (get_or b n 0) ∷ [])

-- a vector, and with it of each unit the least count in those of the first n rows whose unit is listed
unfoldable pub least_to : ℕ → List (List ℕ) → List ℕ → ℕ → List ℕ
least_to m rows v zero = v
least_to m rows v (suc w) = cond (is_listed m w) (lowers_to (least_to m rows v w) (get_or rows w []) 8) (least_to m rows v w)

unfoldable pub least_of : ℕ → List (List ℕ) → List ℕ → List ℕ
least_of m rows v = least_to m rows v 8

-- how many records from the first on a vector counts
unfoldable pub run_within : List ℕ → List Rec → ℕ
run_within v [] = 0
run_within v (r ∷ l) = cond (leb (num r) (get_or v (unit r) 0)) (suc (run_within v l)) 0
