-- What holds of every plan.
-- Document 02, K13.
-- Assumes nothing.
use Rattle.std.specs.Prelude.{ℕ, suc, ◌+◌, ◌≤◌, ◌<◌, ◌≡◌, true, List, length}
use Rattle.model.specs.Numbers.{full_log}
use Rattle.model.specs.Vector.{compare_of}
use Rattle.base_model.specs.Base.{empty_base, tree_of}
use Rattle.plan_model.specs.Plan.{Round, round, log_at, with_log, true_vector, act_answer, act_tried, act_done, plan_archive, plan_fault, plan_text, round_of}
use Rattle.plan_model.specs.Feed.{FedAsWhole}
use Rattle.machine.specs.Machine.{bare, play}
use Rattle.machine.specs.Claim.{distinct}
use Rattle.plan_laws.specs.Calls.{plan_events, acts_in, plan_calls, answers_zero}

-- ---- one event

-- an act is skipped exactly when it is refused, and then no log changes; a 513th record among all units is refused by 11 [F189]
pub record ActClaim (s : Round) (u : ℕ) (w : List ℕ) : Type 0 where
  pub made : act_answer s.made (act_tried s.logs u w) ≡ 0
      → act_done s u (act_tried s.logs u w) ≡ round (with_log s.logs u (act_tried s.logs u w).log) (suc s.made) s.skipped
  pub skipped : (act_answer s.made (act_tried s.logs u w) ≡ 0 → ⊥)
      → act_done s u (act_tried s.logs u w) ≡ round s.logs s.made (suc s.skipped)
  pub room : s.made < 512 → act_answer s.made (act_tried s.logs u w) ≡ (act_tried s.logs u w).number
  pub full : 512 ≤ s.made → (act_tried s.logs u w).number ≡ 0 → act_answer s.made (act_tried s.logs u w) ≡ full_log

-- ---- an accepted plan

pub record PlanClaim (f : List ℕ) : Type 0 where
  -- each unit has the log that it has by the calls not skipped, behind the base of a start [F190]
  pub logs : (u : ℕ) → u < 8 → log_at (round_of f).logs u ≡ (play (plan_archive f) bare (plan_calls f)).logs u
  pub bases : (u : ℕ) → (play (plan_archive f) bare (plan_calls f)).bases u ≡ empty_base
  -- none of them is refused: so no pass ever is [F190]
  pub answers : answers_zero (plan_archive f) bare (plan_calls f) ≡ true
  -- no number is used twice, and the acts not skipped are those counted, at most 512 [F189]
  pub once : distinct (play (plan_archive f) bare (plan_calls f)).used ≡ true
  pub counted : length (play (plan_archive f) bare (plan_calls f)).used ≡ (round_of f).made
  pub few : (round_of f).made ≤ 512
  -- every other act was skipped: the number printed [F191]
  pub others : (round_of f).made + (round_of f).skipped ≡ acts_in (plan_events f)
  -- an answer 0 of a pair: the same log, and so the same tree [F191]
  pub same : (u v : ℕ) → u < 8 → v < 8 → compare_of (true_vector (round_of f).logs u) (true_vector (round_of f).logs v) ≡ 0
      → (log_at (round_of f).logs u ≡ log_at (round_of f).logs v)
      × (tree_of (log_at (round_of f).logs u) empty_base ≡ tree_of (log_at (round_of f).logs v) empty_base)

-- ---- every plan

pub record EveryPlan : Type 0 where
  pub acts : (s : Round) (u : ℕ) (w : List ℕ) → ActClaim s u w
  pub accepted : (f : List ℕ) → (plan_fault f).number ≡ 0 → PlanClaim f
  -- fed block by block it comes to the same text [F193]
  pub fed : (f : List ℕ) → FedAsWhole f
  -- which fits its memory [F191]
  pub fits : (f : List ℕ) → length (plan_text f) ≤ 1024
