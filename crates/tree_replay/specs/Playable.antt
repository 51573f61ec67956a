-- Records that may be replayed one after another.
-- Assumes nothing.
use Rattle.std.specs.Prelude.{ℕ, ◌<◌, ◌≡◌}
use Rattle.model.specs.Record.{Rec, self_of}
use Rattle.model.specs.Replay.{Tree}
use Rattle.tree_table.specs.Rows.{InRange}
use Rattle.tree_lookup.specs.Roles.{role_of}
use Rattle.tree_judge.specs.Judged.{Asks}

-- n records from the tree t on: what they name and they themselves are in range, and no identity comes twice
pub record Playable (t : Tree) (at : ℕ → Rec) (n : ℕ) : Type 0 where
  pub asks : (i : ℕ) → i < n → Asks (at i)
  pub own : (i : ℕ) → i < n → InRange (self_of (at i))
  pub apart : (i j : ℕ) → i < j → j < n → self_of (at j) ≡ self_of (at i) → ⊥
  pub fresh : (i : ℕ) → i < n → role_of (self_of (at i)) t ≡ 0
