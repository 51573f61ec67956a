-- A vector once records are held.
-- Assumes nothing.
use Rattle.std.specs.Prelude.{ℕ, suc, List, [], ◌∷◌, set}
use Rattle.model.specs.Record.{Rec, unit, num}

-- a vector raised by records, one after another: of its unit each record counts as held
unfoldable pub raised : List ℕ → List Rec → List ℕ
raised v [] = v
raised v (r ∷ l) = raised (set v (unit r) (num r)) l
