-- An identity is named at a place: unit 0 to 7, a zero byte, a number of at least 1 and within the vector.
use Rattle.base_rows.proofs.Tests.{unit_above, byte_used, number_none, number_held}
use Rattle.base_rows.proofs.names_in.Goals as goal

pub returns-then-unit-gt7 : goal.returns-then-unit-gt7
returns-then-unit-gt7 c = search (unit_above)

pub returns-then-s-at-ne0 : goal.returns-then-s-at-ne0
returns-then-s-at-ne0 c = search (byte_used)

pub returns-then-number-lt1 : goal.returns-then-number-lt1
returns-then-number-lt1 c = search (number_none)

pub returns : goal.returns
returns c = rw c.from.ensures (search (number_held))
