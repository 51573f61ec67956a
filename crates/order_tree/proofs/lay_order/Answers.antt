-- Their tree is laid in a lent table, which may hold anything before.
use borrow.Author.Rules.{rules}
use Rattle.order_tree.proofs.Playing.{zeroed}
use Rattle.order_tree.proofs.lay_order.Goals as goal

pub fill_order-requires : goal.fill_order-requires
fill_order-requires c = (search, search, search, search, search (zeroed, c.fill.ensures.after (λ y e. e)), search rules)
