-- Eight logs end to end, each good behind the base of a start.
-- Assumes nothing.
use Rattle.std.specs.Prelude.{ℕ, ◌<◌, ◌≡◌, List, length}
use Rattle.base_model.specs.Base.{empty_base}
use Rattle.call_laws.specs.Keeps.{Good}
use Rattle.plan_model.specs.Plan.{round_size, log_at}

pub record Units (s : List ℕ) : Type 0 where
  pub long : length s ≡ round_size
  pub good : (u : ℕ) → u < 8 → Good (log_at s u) empty_base
