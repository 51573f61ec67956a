-- The rows of a folder: the first, and how many.
use Rattle.index_find.proofs.Rows.{list_bad_index, list_there}
use Rattle.index_find.proofs.list.Goals as goal

pub returns-then-index-ne-INDEX_BYTES : goal.returns-then-index-ne-INDEX_BYTES
returns-then-index-ne-INDEX_BYTES c = search (list_bad_index)

pub returns : goal.returns
returns c = search (list_there)
