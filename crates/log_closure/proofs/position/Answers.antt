-- The position of the record of unit u with the relative number c.
use Rattle.log_closure.specs.Tables.{position_of}
use Rattle.log_closure.proofs.position.Goals as goal

pub returns : goal.returns
unfolding position_of
returns c = cc
