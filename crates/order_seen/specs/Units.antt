-- Records named that have units.
-- Assumes nothing.
use Rattle.std.specs.Prelude.{ℕ, ◌<◌, List}
use Rattle.model.specs.Record.{unit}
use Rattle.order_names.specs.Named.{named_at}

pub record Units (log list places : List ℕ) (n : ℕ) : Type 0 where
  pub small : (i : ℕ) → i < n → unit (named_at log list places i) < 8
