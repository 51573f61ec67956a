-- A list that names each record of a sound log once, and nothing else.
-- Assumes nothing.
use Rattle.std.specs.Prelude.{ℕ, ◌≡◌, true, List, length}
use Rattle.model.specs.Lengths.{log_size}
use Rattle.model.specs.Log.{records_of, sound_log}
use Rattle.order_model.specs.Order.{names_given, names_all}
use Rattle.order_names.specs.Named.{Positions}

-- the log has n records, whose positions the table has
pub record Given (log list places : List ℕ) (n : ℕ) : Type 0 where
  pub long : length log ≡ log_size
  pub sound : sound_log log ≡ true
  pub used : n ≡ length (records_of log)
  pub table : Positions log places n
  pub names : names_all (names_given list) (records_of log) ≡ true
