-- A file of either form, as read_either reads it, by way of a lent buffer, whose bytes are neither judged nor promised.
use Rattle.read_either.proofs.Forms.{is_form}
use borrow.Author.Rules.{rules}
use Rattle.read_either.proofs.read_beside.Goals as goal

pub read_sab2-requires : goal.read_sab2-requires
read_sab2-requires c = (search (is_form), search rules)

pub read_sab1-requires : goal.read_sab1-requires
read_sab1-requires c = search (is_form)
