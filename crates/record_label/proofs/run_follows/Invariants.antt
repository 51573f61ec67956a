-- The same of the n bytes behind a place.
use mathlib.Core.Path.{◌≡◌}
use Rattle.record_label.specs.Follow.{follow_to}
use Rattle.record_label.proofs.run_follows.Given as goal

abbrev pub invariant-loop-i : goal.invariant-loop-i
invariant-loop-i l = (l.fine ≡ follow_to l.t l.at l.i)
