-- A tree with other entries or other asides, and a record that may be taken into a tree.
-- Assumes nothing.
use Rattle.std.specs.Prelude.{◌≡◌, true, List}
use Rattle.model.specs.Record.{Rec, op, self_of, folder_of, uses_folder}
use Rattle.model.specs.Replay.{Entry, Aside, Tree}
use Rattle.tree_table.specs.Rows.{InRange}
use Rattle.tree_lookup.specs.Roles.{role_of, Home}
use Rattle.tree_judge.specs.Judged.{Asks}

unfoldable pub with_entries : Tree → List Entry → Tree
with_entries t es = record { entries = es; asides = t.asides }

unfoldable pub with_asides : Tree → List Aside → Tree
with_asides t l = record { entries = t.entries; asides = l }

-- the folder that a make or a move names is the root or an entry
pub record Placed (r : Rec) (es : List Entry) : Type 0 where
  pub home : uses_folder (op r) ≡ true → Home (folder_of r) es

-- what the record names is in range, and its own identity is in range and new
pub record Takes (t : Tree) (r : Rec) : Type 0 where
  pub asks : Asks r
  pub own : InRange (self_of r)
  pub fresh : role_of (self_of r) t ≡ 0
