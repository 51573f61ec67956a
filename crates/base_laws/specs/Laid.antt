-- What can be laid in the bytes of a base.
-- Assumes nothing.
use Rattle.std.specs.Prelude.{◌≤◌, ◌≡◌, true, length}
use Rattle.model.specs.Replay.{Entry, is_present}
use Rattle.base_model.specs.Base.{Base}
use Rattle.tree_laws.specs.Replayed.{Has}
use Rattle.tree_laws.specs.Trees.{SoundTree}

-- a vector of eight counts, and a sound tree on it with no removed entry, of at most 512 entries and 512 asides
pub record Lays (x : Base) : Type 0 where
  pub eight : length x.vector ≡ 8
  pub few_entries : length x.tree.entries ≤ 512
  pub few_asides : length x.tree.asides ≤ 512
  pub sound : SoundTree x.vector x.tree
  pub none-removed : (e : Entry) → Has e x.tree.entries → is_present e ≡ true
