-- Starts a unit.
use Rattle.sab_unit.proofs.Calls.{starts}
use Rattle.sab_unit.proofs.start.Goals as goal

pub returns : goal.returns
returns c = search (starts)
