-- The same, where an index is lent.
use borrow.Author.Tests.{true-eqb, false-eqb}
use Rattle.keep_lent.proofs.Lent.{none_lent, is_lent, lent_long}
use Rattle.index_act.proofs.change_lent.Goals as goal

pub change_index-requires : goal.change_index-requires
change_index-requires c = (search, search, search, search, search (lent_long, false-eqb, c.if-not-is_empty.ensures))

pub returns-then-not-is_empty : goal.returns-then-not-is_empty
returns-then-not-is_empty c = search (is_lent, false-eqb, c.if-not-is_empty.ensures)

pub returns-else-not-is_empty : goal.returns-else-not-is_empty
returns-else-not-is_empty c = search (none_lent, true-eqb, c.if-not-is_empty.ensures)
