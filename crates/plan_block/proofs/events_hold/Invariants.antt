-- The first n events of a block are.
use Prim.Native.Nat.{◌-◌}
use mathlib.Core.Path.{◌≡◌}
use Rattle.plan_model.specs.Plan.{events_hold}
use Rattle.plan_block.proofs.events_hold.Given as goal

abbrev pub invariant-loop-i : goal.invariant-loop-i
invariant-loop-i l = events_hold l.b l.i (l.n - l.i) ≡ events_hold l.b 0 l.n
