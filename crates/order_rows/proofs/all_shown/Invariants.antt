-- Each of the n rows of a is shown by b.
use Rattle.std.proofs.Common.{◌≡◌, true}
use Rattle.model.specs.Log.{all_to}
use Rattle.order_rows.specs.Compared.{row_shown}
use Rattle.order_rows.proofs.all_shown.Given as goal

abbrev pub invariant-loop-i : goal.invariant-loop-i
invariant-loop-i l = all_to l.i (row_shown l.rows l.a l.b) ≡ true
