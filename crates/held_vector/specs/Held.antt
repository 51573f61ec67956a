-- What the call for the held vector answers and leaves.
-- Assumes nothing.
use Rattle.std.specs.Prelude.{ℕ, List, eqb, length}
use Rattle.model.specs.Vector.{vector_bytes}
use Rattle.model.specs.Log.{records_of}
use Rattle.base_model.specs.Base.{held_on}
use Rattle.call_model.specs.Outcome.{Outcome, outcome, guarded}

-- the counts of the records held, folded ones with them, in 16 lent bytes; the count returned is that of the records of the log. No unit is
-- given: 0 passes [F133]
unfoldable pub held_of : List ℕ → List ℕ → List ℕ → Outcome
held_of log base lent =
    guarded 0 log base lent (eqb (length lent) 16) (outcome 0 0 log (vector_bytes (held_on log base)) (length (records_of log)))
