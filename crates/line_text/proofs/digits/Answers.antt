-- How many digits a number has.
use Rattle.line_text.proofs.Decimal.{decimal-length, one_digit, more_digits}
use native.Mathlib.Omega.{arith}
use Rattle.line_text.proofs.digits.Goals as goal

pub loop-left-init : goal.loop-left-init
loop-left-init c = (omega arith, omega arith)

pub overflow_add-k : goal.overflow_add-k
overflow_add-k c = omega (arith, decimal-length c.args.n)

pub loop-left-preserved : goal.loop-left-preserved
loop-left-preserved c = (omega arith, omega (arith, more_digits c.loop-left.left c.loop-left-test.true c.loop-left.invariant.0))

pub returns : goal.returns
returns c = omega (arith, one_digit c.loop-left.left c.loop-left-test.false)
