-- The n records of a block, one after another: the number of the first that is refused, or 0.
use Prim.Native.Nat.{◌-◌}
use mathlib.Core.Path.{◌≡◌}
use Rattle.take_beside.specs.Judging.{judge_from}
use Rattle.take_judge.proofs.Going.{Going}
use Rattle.take_judge.proofs.judge_block.Given as goal

abbrev pub invariant-loop-j : goal.invariant-loop-j
invariant-loop-j l = (judge_from l.list l.base.counts l.log l.b l.j (l.n - l.j) l.held.counts l.used l.places l.seens ≡ judge_from l.list l.base.counts l.log l.b 0 l.n l.initial.held.counts l.m l.initial.places l.initial.seens)
    × Going l.list l.base.counts l.log l.b l.n l.j l.held.counts l.used l.places l.seens
