-- What writing the lines of a state leaves.
-- Assumes nothing.
use Rattle.std.specs.Prelude.{ℕ, ◌≡◌, List}
use Rattle.model.specs.Table.{table_bytes}
use Rattle.base_model.specs.Base.{tree_of}
use Rattle.sab2_laws.specs.Listed.{state_lines}
use Rattle.line_text.specs.Written.{Wrote}

-- the lines of a state stand at the beginning of the text, r bytes, and the table shows its tree
pub record Lists (archive u : ℕ) (log base tree text text' : List ℕ) (r : ℕ) : Type 0 where
  pub table : tree ≡ table_bytes (tree_of log base)
  pub lines : Wrote text text' 0 r (state_lines archive u log base)
