-- The row is taken into the log of a sound state whose records the tables have.
use borrow.Author.Rules.{rules}
use Rattle.try_row.proofs.take_by.Goals as goal

pub take_blocks-requires : goal.take_blocks-requires
take_blocks-requires c = (search rules, search rules, search rules, search rules, search rules, search rules, search rules, search rules, search rules, search rules)
