-- The first n records of a log are replayed from the tree that a table holds on, all of whose entries are present.
use lib.ListN.{length}
use Rattle.model.specs.Log.{records_of}
use Rattle.model.specs.Replay.{replay_from}
use Rattle.tree_table.specs.Rows.{tree_in}
use Rattle.hash_chains.specs.Chains.{nodes_in}
use Rattle.tree_lookup.specs.Roles.{Works}
use Rattle.log_check.specs.declared.Layout.TheVariants.{Log}
use Rattle.log_check.specs.Places.{laid_at}
use Rattle.log_check.specs.InOrder.{listed}
use Rattle.call_model.specs.Fold.{longest}
use Rattle.fold_count_laws.specs.Counted.{present_count}
use Prim.Native.Nat.{◌+◌, ◌≤◌}
use mathlib.Core.Path.{◌≡◌}
use Rattle.fold_run.proofs.longest_run.Given as goal

abbrev pub invariant-loop-i : goal.invariant-loop-i
invariant-loop-i l = (length l.table ≡ length l.initial.table) × (length l.register ≡ length l.initial.register) × (nodes_in 4097 l.register ≤ nodes_in 4097 l.initial.register + l.i) × Works l.table l.register l.size.entries l.size.asides (replay_from (tree_in l.initial.table l.initial.size.entries l.initial.size.asides) (listed (laid_at Log l.log) 0 l.i)) × (l.present ≡ present_count (replay_from (tree_in l.initial.table l.initial.size.entries l.initial.size.asides) (listed (laid_at Log l.log) 0 l.i))) × (l.best ≡ longest (tree_in l.initial.table l.initial.size.entries l.initial.size.asides) (records_of l.log) l.i)
