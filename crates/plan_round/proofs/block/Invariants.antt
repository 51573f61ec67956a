-- The events of a block that passed its checks happen one after another.
use lib.ListN.{length}
use Rattle.plan_units.specs.Units.{Units}
use Rattle.plan_model.specs.Plan.{round, events_done}
use mathlib.Core.Path.{◌≡◌}
use Prim.Native.Nat.{◌+◌, ◌-◌, ◌≤◌}
use Rattle.plan_round.proofs.block.Given as goal

abbrev pub invariant-loop-i : goal.invariant-loop-i
invariant-loop-i l = (l.n ≤ 5) × Units l.logs × (l.tally.skipped ≤ l.initial.tally.skipped + l.i) × (events_done l.archive (round l.logs l.tally.made l.tally.skipped) l.b l.i (l.n - l.i) ≡ events_done l.archive (round l.initial.logs l.initial.tally.made l.initial.tally.skipped) l.b 0 l.n)
