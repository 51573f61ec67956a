-- What a call is told of its log and base once the checks that come first are done.
-- Assumes nothing.
use Rattle.std.specs.Prelude.{ℕ, zero, suc, Bool, List, length, replicate}
use Rattle.model.specs.Log.{records_of}
use Rattle.base_model.specs.Base.{held_on}
use Rattle.call_model.specs.Outcome.{early_number, guard_number}
use Rattle.base_head.specs.Head.{BaseHead, head_of, no_head}
use Rattle.log_closure.specs.declared.Tables.{Tables}
use Rattle.state_check.specs.State.{note_of}

-- the number, and of a state that passed the head of the base, the held vector and how many records the log has
pub record Opening : Type 0 where
  pub number : ℕ
  pub head : BaseHead
  pub held : List ℕ
  pub used : ℕ

abbrev pub opened : ℕ → BaseHead → List ℕ → ℕ → Opening
opened n head held used = record { number = n; head = head; held = held; used = used }

-- zeros behind a refusal
unfoldable pub opened_by : ℕ → List ℕ → List ℕ → Opening
opened_by zero log base = opened 0 (head_of base) (held_on log base) (length (records_of log))
opened_by (suc n) log base = opened (suc n) no_head (replicate 8 0) 0

unfoldable pub open_of : ℕ → List ℕ → List ℕ → Bool → Bool → Opening
open_of u log base ok row = opened_by (guard_number u log base ok row) log base

-- ---- with lent tables

-- as the check of the state leaves them, or as they were if it was not judged
unfoldable pub filled_by : ℕ → List ℕ → List ℕ → Tables → Tables
filled_by zero log base t = note_of log base t
filled_by (suc n) log base t = t

unfoldable pub fill_of : ℕ → List ℕ → List ℕ → Bool → Bool → Tables → Tables
fill_of u log base ok row t = filled_by (early_number u log base ok row) log base t
