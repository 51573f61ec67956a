-- The first n rows of a table in order, the last row first.
use Rattle.index_laws.proofs.Fresh.{order_next}
use Rattle.index_make.proofs.Ordering.{order_none, order_low}
use borrow.Author.Rules.{rules}
use native.Mathlib.Omega.{arith}
use Rattle.index_make.proofs.order_rows.Goals as goal

pub loop-k-init : goal.loop-k-init
loop-k-init c = (search rules, search (order_none))

pub place-at-requires : goal.place-at-requires
place-at-requires c = (search rules, omega arith, omega arith, omega arith, search (order_low))

pub loop-k-preserved : goal.loop-k-preserved
loop-k-preserved c = (search rules, search (order_next))
