-- A unit of 0 to 7, a count of 0 to 6, and zeros in the unused record places.
use native.Mathlib.Omega.{arith}
use mathlib.Core.Path.{◌∙◌}
use Prim.Native.Nat.{◌<◌}
use Rattle.block_read.proofs.Checks.{bad_sender, bad_count}
use Rattle.block_read.proofs.header_holds.Goals.{then-unit-le7, else-unit-le7}
use Rattle.block_read.proofs.header_holds.Goals as goal

pub returns-else-n-le6 : goal.returns-else-n-le6
returns-else-n-le6 c =
    elim c.if-unit-le7.branch [
      | then-unit-le7 w ↦ let n : 6 < c.count_in-n.result = omega arith in w.t-5-is ∙ bad_count _ c.sender_in-unit.ensures w.if-unit-le7.true c.count_in-n.ensures n
      | else-unit-le7 w ↦ w.t-5-is ∙ bad_sender _ c.sender_in-unit.ensures w.if-unit-le7.false
    ]
