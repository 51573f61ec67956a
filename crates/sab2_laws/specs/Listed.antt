-- The lines of a state, and what reading an accepted file leaves and its listing is.
-- Assumes nothing.
use Rattle.std.specs.Prelude.{ℕ, ◌≡◌, List, ◌++◌, length}
use Rattle.model.specs.Log.{records_of}
use Rattle.model.specs.Table.{table_bytes}
use Rattle.model.specs.Block.{vector_in}
use Rattle.model.specs.File.{block_at}
use Rattle.model.specs.Listing.{head_line, seen_line, tree_lines}
use Rattle.base_model.specs.Base.{held_on, tree_of}
use Rattle.sab2_model.specs.Calls.{read_either, either_listing}
use Rattle.call_laws.specs.Keeps.{Good}

-- under an archive and a unit: the count of the log, the held vector, the tree of both
unfoldable pub state_lines : ℕ → ℕ → List ℕ → List ℕ → List ℕ
state_lines archive u log base =
    head_line archive u (length (records_of log)) ++ (seen_line (held_on log base) ++ tree_lines (table_bytes (tree_of log base)))

-- an accepted file leaves a good state, and its listing is that of this state
pub record Listed (f : List ℕ) : Type 0 where
  pub good : Good (read_either f).log (read_either f).base
  pub counted : (read_either f).records ≡ length (records_of (read_either f).log)
  pub vector : held_on (read_either f).log (read_either f).base ≡ vector_in (block_at f 0)
  pub lines : either_listing f ≡ state_lines (read_either f).archive (read_either f).sender (read_either f).log (read_either f).base
