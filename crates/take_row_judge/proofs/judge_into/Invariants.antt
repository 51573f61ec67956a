-- The n records of a block, one after another, up to the first that is refused.
use Prim.Native.Nat.{◌≤◌}
use mathlib.Core.Path.{◌≡◌}
use lib.ListN.{length}
use Rattle.model.specs.Log.{records_of}
use Rattle.take_row_judge.proofs.Running.{Running}
use Rattle.take_row_judge.proofs.judge_into.Given as goal

abbrev pub invariant-loop-j : goal.invariant-loop-j
invariant-loop-j l = (length l.work ≡ 41440) × (l.used ≤ 512) × Running l.list l.folded.counts (records_of l.log) l.start l.b l.n l.j l.initial.work l.m l.work l.used l.held.counts l.tables.places l.tables.seens
