-- The seen of the record that s counts last of unit u is nowhere above s, its eight counts compared at once.
use Rattle.log_closure.proofs.Closed.{unit-none, unit_row}
use Rattle.log_closure.proofs.unit_covered.Goals as goal

pub returns-then-c-f : goal.returns-then-c-f
returns-then-c-f c = search (unit-none)

pub returns : goal.returns
returns c = search (unit_row)
