-- The first fault of a plan.
use Rattle.std.proofs.Common.{length, ◌+◌, ◌-◌, ◌/◌, ◌≤◌}
use mathlib.Core.Path.{◌≡◌}
use Rattle.plan_model.specs.Plan.{plan_fault_from}
use Rattle.plan_check.proofs.plan_fault.Given as goal

abbrev pub invariant-loop-k : goal.invariant-loop-k
invariant-loop-k l = (l.k ≤ 4096) × (plan_fault_from l.plan l.k (((length l.plan + 511) / 512) - l.k) ≡ plan_fault_from l.plan 0 ((length l.plan + 511) / 512))
