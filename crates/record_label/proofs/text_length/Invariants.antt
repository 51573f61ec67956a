-- How many bytes stand before the first zero.
use Prim.Native.Nat.{◌+◌}
use mathlib.Core.Path.{◌≡◌}
use lib.ListN.{drop}
use Rattle.model.specs.Record.{text_length}
use Rattle.record_label.proofs.text_length.Given as goal

abbrev pub invariant-loop-i : goal.invariant-loop-i
invariant-loop-i l = (l.i + text_length (drop l.i l.t) ≡ text_length l.t)
