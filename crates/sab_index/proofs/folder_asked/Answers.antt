-- The folder asked, as one number.
use Rattle.sab_index.proofs.Calls.{far_unit, far_number, near}
use Rattle.sab_index.proofs.folder_asked.Goals as goal

pub returns-then-unit-gt7 : goal.returns-then-unit-gt7
returns-then-unit-gt7 c = search (far_unit)

pub returns-then-number-gt65535 : goal.returns-then-number-gt65535
returns-then-number-gt65535 c = search (far_number)

pub returns : goal.returns
returns c = search (near)
