-- The blocks of a row, one after another up to the first that is refused.
use Prim.Native.Nat.{◌≤◌, ◌-◌}
use mathlib.Core.Path.{◌≡◌}
use lib.ListN.{length}
use Rattle.model.specs.Log.{records_of, log_bytes}
use Rattle.row_model.specs.Row.{try_from, try_all}
use Rattle.take_row_store.specs.Grown.{held_in}
use Rattle.take_row_judge.specs.Kept.{Kept}
use Rattle.take_row_judge.proofs.judge_row.Given as goal

abbrev pub invariant-loop-k : goal.invariant-loop-k
invariant-loop-k l = (l.n ≤ 86) × (length l.work ≡ 41440) × Kept l.list l.folded.counts (records_of l.log) l.start l.work l.used l.held.counts l.tables.places l.tables.seens × (try_from l.archive l.unit l.base l.row (log_bytes (held_in (records_of l.log) l.start l.work l.used)) l.k (l.n - l.k) ≡ try_all l.archive l.unit l.log l.base l.row)
