-- The first n records of a log or a file, from the tree that a table holds on.
use Prim.Native.Nat.{◌+◌, ◌≤◌}
use mathlib.Core.Path.{◌≡◌}
use lib.ListN.{length}
use Rattle.model.specs.Replay.{replay_from}
use Rattle.tree_table.specs.Rows.{tree_in}
use Rattle.hash_chains.specs.Chains.{nodes_in}
use Rattle.tree_lookup.specs.Roles.{Works}
use Rattle.log_check.specs.Places.{laid_at}
use Rattle.log_check.specs.InOrder.{listed}
use Rattle.tree_replay.specs.Registers.{replay_on}
use Rattle.tree_replay.proofs.replay.Given as goal

abbrev pub invariant-loop-i : goal.invariant-loop-i
invariant-loop-i l = (length l.table ≡ length l.initial.table) × (length l.register ≡ length l.initial.register) × (nodes_in 4097 l.register ≤ nodes_in 4097 l.initial.register + l.i) × Works l.table l.register l.entries l.asides (replay_from (tree_in l.initial.table l.initial.entries l.initial.asides) (listed (laid_at l.layout l.bytes) 0 l.i)) × (l.register ≡ replay_on (tree_in l.initial.table l.initial.entries l.initial.asides) l.initial.register (listed (laid_at l.layout l.bytes) 0 l.i))
