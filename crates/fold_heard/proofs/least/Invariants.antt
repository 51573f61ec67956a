-- Of each unit the least count in the held vector and in the rows of the listed units.
use Rattle.fold_heard.specs.Rows.{least_to}
use mathlib.Core.Path.{◌≡◌}
use Rattle.fold_heard.proofs.least.Given as goal

abbrev pub invariant-loop-w : goal.invariant-loop-w
invariant-loop-w l = l.v.counts ≡ least_to l.list l.rows l.initial.v.counts l.w
