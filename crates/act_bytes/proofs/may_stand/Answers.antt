-- A byte may stand in a new label.
use Rattle.act_bytes.proofs.Table.{table_tells}
use Rattle.act_bytes.proofs.may_stand.Goals as goal

pub returns : goal.returns
returns c = search (table_tells)
