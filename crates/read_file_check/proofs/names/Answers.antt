-- The list names the unit; it names none above 7.
use Rattle.read_file_check.proofs.Records.{unit_above}
use Rattle.read_file_check.proofs.names.Goals as goal

pub returns-then-unit-gt7 : goal.returns-then-unit-gt7
returns-then-unit-gt7 c = search (unit_above)
