-- Makes a record of the own unit.
use Rattle.sab_unit.proofs.Calls.{acts}
use Rattle.sab_unit.proofs.act.Goals as goal

pub returns : goal.returns
returns c = search (acts)
