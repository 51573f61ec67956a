-- Unit a with the first n units above it.
use Rattle.line_text.specs.Written.{Wrote}
use Rattle.plan_model.specs.Plan.{pairs_of}
use Rattle.plan_lines.proofs.pairs_of.Given as goal

abbrev pub invariant-loop-i : goal.invariant-loop-i
invariant-loop-i l = Wrote l.initial.out l.out l.at l.m (pairs_of l.logs l.a l.i)
