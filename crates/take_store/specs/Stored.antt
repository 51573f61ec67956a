-- A log while records are stored in it.
-- Assumes nothing.
use Rattle.std.specs.Prelude.{ℕ, ◌≤◌, ◌≡◌, List, length}
use Rattle.model.specs.Record.{Rec}
use Rattle.model.specs.Log.{vector_on, log_bytes}
use Rattle.log_laws.specs.Sound.{SoundOn}

-- a log has the records l, which are sound behind the base vector; how many they are, and the base vector with them counted
pub record Stored (base : List ℕ) (l : List Rec) (log : List ℕ) (used : ℕ) (held : List ℕ) : Type 0 where
  pub bytes : log ≡ log_bytes l
  pub sound : SoundOn base l
  pub few : length l ≤ 512
  pub used_is : used ≡ length l
  pub counts : held ≡ vector_on base l
