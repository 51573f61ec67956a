-- The k records in recs, which rise in rank, are put in by rank among the n records of a log that rise too.
use Prim.Native.Nat.{◌≤◌}
use mathlib.Core.Path.{◌≡◌}
use lib.ListN.{length}
use Rattle.log_insert.proofs.Merged.{Merging}
use Rattle.log_insert.proofs.insert_records.Given as goal

abbrev pub invariant-loop-j : goal.invariant-loop-j
invariant-loop-j l = (l.end ≤ l.n) × (length l.log ≡ length l.initial.log) × Merging l.initial.log l.recs l.n l.k l.log l.end l.j
