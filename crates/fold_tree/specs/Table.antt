-- A working table without its register.
-- Assumes nothing.
use Rattle.std.specs.Prelude.{ℕ, ◌≤◌, ◌≡◌, List, length}
use Rattle.model.specs.Replay.{Tree}
use Rattle.model.specs.Table.{work_bytes}
use Rattle.tree_table.specs.Rows.{AllProper}

-- a table of n entries and m asides that holds the tree t
pub record Table (b : List ℕ) (n m : ℕ) (t : Tree) : Type 0 where
  pub bytes : b ≡ work_bytes t
  pub rows : length t.entries ≡ n
  pub notes : length t.asides ≡ m
  pub rows_fit_lem : n ≤ 1024
  pub notes_fit : m ≤ 1024
  pub proper : AllProper t.entries
