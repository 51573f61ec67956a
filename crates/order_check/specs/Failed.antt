-- What checking an order answers, as the model says it.
-- Assumes nothing.
use Rattle.std.specs.Prelude.{ℕ, List, Option, None, Some, Result, Ok, Err}
use Rattle.refusal.specs.declared.Refusal.{Refusal}
use Rattle.refusal.specs.Refusals.{number_of}
use Rattle.order_model.specs.Order.{Ordered, ordered}
use Rattle.order_check.specs.declared.Condition.{Condition}
use Rattle.order_check.specs.declared.Condition.TheVariants.{Names, Seen, Tree}

-- the number of a condition
abbrev pub condition_number : Condition → ℕ
condition_number Names = 1
condition_number Seen = 2
condition_number Tree = 3

-- the number of the condition that failed, 0 for none
abbrev pub failed_number : Option Condition → ℕ
failed_number None = 0
failed_number (Some condition) = condition_number condition

-- a refusal tells of no condition
abbrev pub ordered_by : Result (Option Condition) Refusal → List ℕ → List ℕ → Ordered
ordered_by (Ok failed) ours theirs = ordered 0 0 (failed_number failed) ours theirs
ordered_by (Err refusal) ours theirs = ordered (number_of refusal) 0 0 ours theirs
