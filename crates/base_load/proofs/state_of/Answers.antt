-- The state of an aside.
use Rattle.base_load.proofs.Rows.{is_open, is_settled}
use Rattle.base_load.proofs.state_of.Goals as goal

pub returns-then-x-eq1 : goal.returns-then-x-eq1
returns-then-x-eq1 c = search (is_open)

pub returns-else-x-eq1 : goal.returns-else-x-eq1
returns-else-x-eq1 c = search (is_settled)
