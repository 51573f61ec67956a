-- What is known of a sound state that a call has at hand.
-- Assumes nothing.
use Rattle.std.specs.Prelude.{ℕ, ◌≡◌, true, List, length}
use Rattle.model.specs.Lengths.{log_size, base_size}
use Rattle.model.specs.Bytes.{word}
use Rattle.model.specs.Log.{records_of}
use Rattle.base_model.specs.Base.{held_on, sound_state}
use Rattle.state_check.specs.declared.State.{State}

-- log and base are sound; the held vector, and how many entries and asides the base has
pub record Known (log base : List ℕ) (state : State) : Type 0 where
  pub long : length log ≡ log_size
  pub based : length base ≡ base_size
  pub sound : sound_state log base ≡ true
  pub held_is : state.held.counts ≡ held_on log base
  pub entries_are : state.head.entries ≡ word base 2
  pub asides_are : state.head.asides ≡ word base 4

-- the same, and how many records the log has
pub record Stands (log base : List ℕ) (state : State) : Type 0 where
  pub known : Known log base state
  pub used_is : state.used ≡ length (records_of log)
