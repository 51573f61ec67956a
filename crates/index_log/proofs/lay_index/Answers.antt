-- The index of the tree of a sound state.
use Rattle.index_log.proofs.Indexing.{table_within_lem, index_laid}
use borrow.Author.Rules.{rules}
use Rattle.index_log.proofs.lay_index.Goals as goal

pub make_index-requires : goal.make_index-requires
make_index-requires c = (search rules, search (table_within_lem), search rules)

pub returns-clause-index : goal.returns-clause-index
returns-clause-index c = search (index_laid)
