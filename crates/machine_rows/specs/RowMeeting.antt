-- A meeting by rows: one unit hands out a row to the other's vector, and the other takes it.
-- Assumes nothing.
use Rattle.std.specs.Prelude.{ℕ, ◌+◌, ◌*◌, ◌≤◌, ◌<◌, ◌≡◌, [], length, take, replicate}
use Rattle.model.specs.Log.{records_of}
use Rattle.call_model.specs.Outcome.{Outcome}
use Rattle.log_laws.specs.Members.{Agree}
use Rattle.machine.specs.Meeting.{Store, with_log, held_by, vector_by, Whole, lacked_by, meet, Open}
use Rattle.row_model.specs.Row.{RowTaken, row_taken, take_row_of, hand_row_of}

-- unit a hands out a row to the vector of b
unfoldable pub row_handed : ℕ → ℕ → Store → Store → Outcome
row_handed archive a sa sb = hand_row_of archive a sa.log sa.base (vector_by sb) (replicate 44032 0)

-- unit b takes the blocks of that row
unfoldable pub row_round : ℕ → ℕ → ℕ → Store → Store → RowTaken
row_round archive a b sa sb =
    take_row_of archive b sb.log sb.base (take (512 * (row_handed archive a sa sb).blocks) (row_handed archive a sa sb).lent)

-- the row is handed out, all its blocks are taken, the log is that of as many rounds by single blocks, and nothing is lacking then
pub record RowMeets (archive a b : ℕ) (sa sb : Store) : Type 0 where
  pub handing : (row_handed archive a sa sb).number ≡ 0
  pub taking : row_round archive a b sa sb ≡ row_taken 0 0 (row_handed archive a sa sb).blocks 0 (meet archive a b sa sb (row_handed archive a sa sb).blocks).log
  pub nothing : lacked_by sa (with_log sb (row_round archive a b sa sb).log) ≡ []

-- two whole stores that share no identity with different records and may meet, whose union, without what b has folded, fits 512
abbrev pub EveryRowMeeting : Type 0
EveryRowMeeting =
    (archive a b : ℕ) (sa sb : Store) → a < 8 → b < 8 → Whole sa → Whole sb → Agree (held_by sa) (held_by sb) → Open sa sb
    → length (lacked_by sa sb) + length (records_of sb.log) ≤ 512 → RowMeets archive a b sa sb
