-- The first n records of a log are replayed from the tree that a table holds on, all of whose entries are present.
use mathlib.Core.Path.{refl}
use Rattle.tree_replay.proofs.Playing.{turn_entries, turn_asides, turn_both, turn_holds, turn_takes, turn_goes, turn_inside, play_starts}
use Rattle.fold_run.proofs.Runs.{run_none, best_none, run_known, run_to, run_few, run-next, best_next, works_end, best_ends, best_within}
use native.Mathlib.Omega.{arith}
use borrow.Author.Rules.{rules}
use Rattle.fold_run.proofs.longest_run.Goals as goal

pub loop-i-init : goal.loop-i-init
loop-i-init c = (refl, refl, omega arith, search (play_starts), search (run_none), search (best_none))

pub slice_bounds-rec-end : goal.slice_bounds-rec-end
slice_bounds-rec-end c = search (turn_inside)

pub step-next-requires : goal.step-next-requires
step-next-requires c = (search (turn_takes), search (turn_holds), search (turn_entries), search (turn_asides), search (turn_both), omega arith)

pub operation_of-operation-requires : goal.operation_of-operation-requires
operation_of-operation-requires c = (search rules, search (run_known), search (run_to))

pub count_after-present-requires : goal.count_after-present-requires
count_after-present-requires c = search (run_few)

pub loop-i-preserved : goal.loop-i-preserved
loop-i-preserved c = (search rules, search rules, omega arith, search (turn_goes), search (run-next), search (best_next))

pub returns-clause-best : goal.returns-clause-best
returns-clause-best c = (search (best_ends), search (best_within))

pub returns-clause-replayed : goal.returns-clause-replayed
returns-clause-replayed c = search (works_end)
