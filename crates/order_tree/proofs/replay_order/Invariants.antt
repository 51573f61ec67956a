-- The n records named, one after another, from the root alone on, into a table and a register of zeros.
use Rattle.std.proofs.Common.{◌+◌, ◌≤◌}
use Rattle.model.specs.Replay.{empty_tree, replay_from}
use Rattle.hash_chains.specs.Chains.{nodes_in}
use Rattle.tree_lookup.specs.Roles.{Works}
use Rattle.log_check.specs.InOrder.{listed}
use Rattle.order_names.specs.Named.{named_at}
use Rattle.order_tree.proofs.replay_order.Given as goal

abbrev pub invariant-loop-i : goal.invariant-loop-i
invariant-loop-i l = (nodes_in 4097 l.register ≤ nodes_in 4097 l.initial.register + l.i) × Works l.table l.register l.size.entries l.size.asides (replay_from empty_tree (listed (named_at l.log l.list l.places) 0 l.i))
