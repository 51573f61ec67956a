-- The entry of a folder and a label is taken out; nothing is done where there is none.
use Rattle.index_change.proofs.Changes.{taken_low, take_done, take_none}
use borrow.Author.Rules.{rules}
use Rattle.index_change.proofs.take_out.Goals as goal

pub take_row-requires : goal.take_row-requires
take_row-requires c = (search rules, search rules, taken_low _ _ _ _ _ _ c.rows_in-n.ensures.0 c.row_is.ensures c.if-row_is.true)

pub returns-then-row_is : goal.returns-then-row_is
returns-then-row_is c = search (take_done)

pub returns-else-row_is : goal.returns-else-row_is
returns-else-row_is c = search (take_none)
