-- Their tree is laid in a table of zeros, by a register of zeros.
use Rattle.tree_lookup.proofs.Working.{works_holds}
use Rattle.order_tree.proofs.Playing.{order_shown}
use Rattle.order_tree.proofs.fill_order.Goals as goal

pub finish-requires : goal.finish-requires
finish-requires c = search (works_holds)

pub returns : goal.returns
returns c = search (order_shown)
