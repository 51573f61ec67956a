-- Row i of a is shown by b, whose rows are noted.
use Rattle.order_rows.proofs.Notes.{key_slotted, shown_none, shown_low, shown_some}
use borrow.Author.Rules.{rules}
use Rattle.order_rows.proofs.is_shown.Goals as goal

pub slot_of-s-requires : goal.slot_of-s-requires
slot_of-s-requires c = search (key_slotted)

pub returns-then-j-eq0 : goal.returns-then-j-eq0
returns-then-j-eq0 c = search (shown_none)

pub row_alike-requires : goal.row_alike-requires
row_alike-requires c = (search rules, search rules, search rules, search (shown_low))

pub returns : goal.returns
returns c = search (shown_some)
