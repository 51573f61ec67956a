-- The same label, in capitals or small letters.
use mathlib.Core.Path.{◌≡◌}
use lib.ListN.{take}
use Rattle.model.specs.Replay.{same_label}
use Rattle.record_label.proofs.same_label.Given as goal

abbrev pub invariant-loop-i : goal.invariant-loop-i
invariant-loop-i l = (l.equal ≡ same_label (take l.i l.a) (take l.i l.b))
