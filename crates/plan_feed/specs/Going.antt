-- A plan that is being fed, as the numbers that are kept and the eight logs.
-- Assumes nothing.
use Rattle.std.specs.Prelude.{ℕ, ◌*◌, ◌≤◌, List}
use Rattle.model.specs.File.{fault}
use Rattle.plan_model.specs.Plan.{Round}
use Rattle.plan_model.specs.Feed.{Fed}
use Rattle.plan_units.specs.Units.{Units}

abbrev pub fed : ℕ → ℕ → ℕ → ℕ → Round → Fed
fed n p k a s = record { refusal = fault n p; blocks = k; archive = a; state = s }

-- every unit is good, and no more acts were skipped than the blocks have events
pub record Going (s : Fed) : Type 0 where
  pub units : Units s.state.logs
  pub few : s.blocks ≤ 4096
  pub skipped : s.state.skipped ≤ 5 * s.blocks
