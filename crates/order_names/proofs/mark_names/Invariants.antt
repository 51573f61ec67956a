-- Each of the first n names is ours, and none has a mark before its turn.
use Rattle.std.proofs.Common.{◌≡◌, ◌-◌}
use Rattle.order_model.specs.Order.{names_from}
use Rattle.order_laws.specs.Marking.{marks_all}
use Rattle.order_names.proofs.mark_names.Given as goal

abbrev pub invariant-loop-i : goal.invariant-loop-i
invariant-loop-i l = marks_all l.held.counts l.marks (names_from l.list l.i (l.n - l.i)) ≡ marks_all l.held.counts l.initial.marks (names_from l.list 0 l.n)
