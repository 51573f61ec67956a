-- The run that folds, replayed into the work memory.
use Rattle.fold.proofs.Folding.{log_sound, held_on_is, run_is}
use native.Mathlib.Omega.{arith}
use borrow.Author.Rules.{rules}
use Rattle.fold.proofs.run_in.Goals as goal

pub heard_run-n-requires : goal.heard_run-n-requires
heard_run-n-requires c = (search rules, search (log_sound), search rules, search rules, search (held_on_is), search rules)

pub returns-clause-run : goal.returns-clause-run
returns-clause-run c = (search (run_is), omega arith)
