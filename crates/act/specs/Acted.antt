-- An act on a sound state, behind the checks that come first: its outcome, and what it leaves in the work memory.
-- Assumes nothing.
use Rattle.std.specs.Prelude.{ℕ, List}
use Rattle.model.specs.Log.{records_of}
use Rattle.base_model.specs.Base.{base_in, base_vector, tree_of}
use Rattle.call_model.specs.Outcome.{Outcome, early_wish, act_number, acted, work_after}

unfoldable pub acted_on : ℕ → List ℕ → List ℕ → List ℕ → Outcome
acted_on u log base w =
    acted u log (base_vector base) w (act_number (base_in base).list u (base_vector base) (base_in base).tree (records_of log) w)

unfoldable pub worked_on : ℕ → List ℕ → List ℕ → List ℕ → List ℕ → List ℕ
worked_on u log base w work =
    work_after (early_wish (base_in base).list u (base_vector base) (records_of log) w) (tree_of log base) work
