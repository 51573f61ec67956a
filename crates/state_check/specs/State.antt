-- What the check of a state tells, and what it leaves in lent tables.
-- Assumes nothing.
use Rattle.std.specs.Prelude.{ℕ, Bool, true, false, cond, List, length}
use Rattle.model.specs.Log.{no_counts, records_of}
use Rattle.base_model.specs.Base.{base_vector, sound_base, held_on, sound_state}
use Rattle.base_head.specs.Head.{BaseHead, head_of, no_head}
use Rattle.log_closure.specs.declared.Tables.{Tables}
use Rattle.log_closure.specs.Tables.{tables}
use Rattle.log_check.specs.InOrder.{Check, check_of}

-- whether it is sound; the head of the base, the held vector, and how many records the log has
pub record StateTold : Type 0 where
  pub sound : Bool
  pub head : BaseHead
  pub held : List ℕ
  pub used : ℕ

abbrev pub stated : Bool → BaseHead → List ℕ → ℕ → StateTold
stated s h held n = record { sound = s; head = h; held = held; used = n }

-- zeros where it is not
abbrev pub unsound : StateTold
unsound = stated false no_head no_counts 0

unfoldable pub state_of : List ℕ → List ℕ → StateTold
state_of log base = cond (sound_state log base) (stated true (head_of base) (held_on log base) (length (records_of log))) unsound

-- the tables: the records noted as the check of the log leaves them, or as they were where the base is not sound
unfoldable pub note_of : List ℕ → List ℕ → Tables → Tables
note_of log base t =
    let c : Check = check_of (base_vector base) log t.places t.seens in
    cond (sound_base base) (tables c.places c.seens) t
