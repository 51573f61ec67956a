-- The n records named, one after another, from the root alone on, into a table and a register of zeros.
use native.Mathlib.Omega.{arith}
use Rattle.tree_lookup.proofs.Working.{works_holds}
use Rattle.order_tree.proofs.Playing.{order_starts, order_nodes, order_entries, order_asides, order_both, order_takes, order_goes, order_ends}
use Rattle.order_tree.proofs.replay_order.Goals as goal

pub loop-i-init : goal.loop-i-init
loop-i-init c = (omega arith, search (order_starts))

pub step-size-requires : goal.step-size-requires
step-size-requires c = (search (order_takes), search (works_holds), search (order_entries), search (order_asides), search (order_both), search (order_nodes))

pub loop-i-preserved : goal.loop-i-preserved
loop-i-preserved c = (omega arith, search (order_goes))

pub returns : goal.returns
returns c = search (order_ends)
