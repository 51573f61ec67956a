-- The entry of a folder that has a label, or none.
use Rattle.index_find.proofs.Rows.{find_bad_index, find_bad_label, find_none, find_there, row_within}
use borrow.Author.Rules.{rules}
use Rattle.index_find.proofs.find.Goals as goal

pub returns-then-index-ne-INDEX_BYTES : goal.returns-then-index-ne-INDEX_BYTES
returns-then-index-ne-INDEX_BYTES c = search (find_bad_index)

pub returns-then-label-ne32 : goal.returns-then-label-ne32
returns-then-label-ne32 c = search (find_bad_label)

pub returns-then-not-row_is : goal.returns-then-not-row_is
returns-then-not-row_is c = search (find_none)

pub entry_at-requires : goal.entry_at-requires
entry_at-requires c = (search rules, search (row_within))

pub returns : goal.returns
returns c = search (find_there)
