-- The identity k is one of the first `count` noted.
use mathlib.Core.Path.{◌≡◌}
use mathlib.Core.Bool.{false}
use lib.ListN.{take}
use Rattle.try_row_report.specs.Listed.{is_among}
use Rattle.try_row_report.proofs.is_noted.Given as goal

abbrev pub invariant-loop-i : goal.invariant-loop-i
invariant-loop-i l = is_among l.k (take l.i l.notes) ≡ false
