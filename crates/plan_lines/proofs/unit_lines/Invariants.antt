-- The lines of the first n units.
use Rattle.line_text.specs.Written.{Wrote}
use Rattle.plan_model.specs.Plan.{unit_lines}
use Rattle.plan_lines.proofs.unit_lines.Given as goal

abbrev pub invariant-loop-u : goal.invariant-loop-u
invariant-loop-u l = Wrote l.initial.out l.out l.at l.m (unit_lines l.logs l.u)
