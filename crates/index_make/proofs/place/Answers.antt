-- Where a row goes among the first k of an order, by halving.
use Rattle.index_laws.specs.Copied.{order_before}
use Rattle.index_make.proofs.Ordering.{order_key}
use borrow.Author.Rules.{rules}
use Rattle.index_make.proofs.place.Goals as goal

pub returns : goal.returns
returns c = (c.halve.ensures.halved (order_before c.args.table.now c.args.order.now c.args.row) (λ i t h e. search (order_key, rules)), c.halve.ensures.within)
