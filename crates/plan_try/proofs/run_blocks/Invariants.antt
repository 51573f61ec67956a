-- The blocks of a plan that passed its checks, one after another, from empty logs on.
use Prim.Native.Nat.{◌-◌, ◌*◌, ◌≤◌}
use mathlib.Core.Path.{◌≡◌}
use lib.ListN.{length}
use Rattle.plan_model.specs.Plan.{round, blocks_done, round_of}
use Rattle.plan_units.specs.Units.{Units}
use Rattle.plan_try.proofs.run_blocks.Given as goal

abbrev pub invariant-loop-k : goal.invariant-loop-k
invariant-loop-k l = Units l.logs × (l.t.skipped ≤ 5 * l.k) × (blocks_done l.archive (round l.logs l.t.made l.t.skipped) l.plan l.k (l.n - l.k) ≡ round_of l.plan)
