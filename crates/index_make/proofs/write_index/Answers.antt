-- The index of the first n entries of a table.
use Rattle.index_make.proofs.Writing.{index_made}
use Rattle.index_make.proofs.Ordering.{order_all_low}
use native.Mathlib.Omega.{arith}
use borrow.Author.Rules.{rules}
use Rattle.index_make.proofs.write_index.Goals as goal

pub write_rows-requires : goal.write_rows-requires
write_rows-requires c = (search rules, search rules, search rules, order_all_low _ _ _ (omega arith) c.order_rows.ensures.0, search rules)

pub returns : goal.returns
returns c = search (index_made, c.fill.ensures.after (λ y e. e))
