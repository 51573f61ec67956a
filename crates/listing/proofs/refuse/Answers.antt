-- The line of a refused file; the tree table is cleared.
use Rattle.listing.proofs.Outcomes.{refused_fits, refused_small, refused_same, table_cleared}
use borrow.Author.Rules.{rules}
use Rattle.listing.proofs.refuse.Goals as goal

pub refused_line-requires : goal.refused_line-requires
refused_line-requires c = search (refused_fits)

pub overflow_cast-result : goal.overflow_cast-result
overflow_cast-result c = search (refused_small, rules)

pub returns-clause-line : goal.returns-clause-line
returns-clause-line c = search (refused_same)

pub returns-clause-cleared : goal.returns-clause-cleared
returns-clause-cleared c = search (table_cleared, c.fill.ensures.after (λ y e. e))
