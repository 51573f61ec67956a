-- The pairs whose lower unit is one of the first n.
use Rattle.line_text.specs.Written.{Wrote}
use Rattle.plan_model.specs.Plan.{pair_lines}
use Rattle.plan_lines.proofs.pair_lines.Given as goal

abbrev pub invariant-loop-a : goal.invariant-loop-a
invariant-loop-a l = Wrote l.initial.out l.out l.at l.m (pair_lines l.logs l.a)
