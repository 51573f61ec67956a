-- The disputed entries of the tree of a sound state are noted; their count is returned.
use Rattle.try_row.proofs.Tried.{tree_few, notes_is}
use borrow.Author.Rules.{rules}
use Rattle.try_row.proofs.note_before.Goals as goal

pub note_disputed-requires : goal.note_disputed-requires
note_disputed-requires c = (search rules, search (tree_few), search rules)

pub returns-clause-made : goal.returns-clause-made
returns-clause-made c = search (notes_is)
