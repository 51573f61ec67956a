-- An act with an index on a sound state, behind the checks that come first: its outcome, with the index left.
-- Assumes nothing.
use Rattle.std.specs.Prelude.{ℕ, true, List, []}
use Rattle.model.specs.Log.{records_of}
use Rattle.base_model.specs.Base.{base_vector, tree_of}
use Rattle.call_model.specs.Outcome.{stamped}
use Rattle.act.specs.Acted.{acted_on}
use Rattle.index_model.specs.Acting.{change_in}
use Rattle.index_model.specs.Kept.{Kept, kept_of}

unfoldable pub acted_kept : ℕ → List ℕ → List ℕ → List ℕ → List ℕ → Kept
acted_kept u log base i w =
    kept_of true log [] i (acted_on u log base w) (change_in (stamped u (base_vector base) (records_of log) w) (tree_of log base) i)
