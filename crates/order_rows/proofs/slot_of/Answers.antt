-- The slot of an identity.
use Rattle.order_rows.proofs.Notes.{slot_mark}
use borrow.Author.Rules.{rules}
use Rattle.order_rows.proofs.slot_of.Goals as goal

pub returns : goal.returns
returns c = (search (slot_mark), search rules)
