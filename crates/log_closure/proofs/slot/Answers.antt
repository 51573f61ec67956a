-- Where the position of the record of unit u with the relative number c stands.
use Rattle.log_closure.specs.Tables.{slot_of}
use borrow.Author.Rules.{rules}
use Rattle.log_closure.proofs.slot.Goals as goal

pub returns : goal.returns
unfolding slot_of
returns c = search rules
