-- Each of the first n names is ours, and none has a mark before its turn.
use native.Mathlib.Omega.{arith}
use Rattle.order_names.proofs.Names.{marks_stop, marks_go, marks_end}
use Rattle.order_names.proofs.mark_names.Goals as goal

pub returns-then-not-mark : goal.returns-then-not-mark
returns-then-not-mark c = search (marks_stop)

pub loop-i-preserved : goal.loop-i-preserved
loop-i-preserved c = search (marks_go)

pub returns : goal.returns
returns c = marks_end _ _ _ _ _ _ (omega arith) c.loop-i.invariant
