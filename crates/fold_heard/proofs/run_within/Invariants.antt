-- How many records from the first on a vector counts.
use lib.ListN.{drop}
use Rattle.model.specs.Log.{records_of}
use Rattle.fold_heard.specs.Rows.{run_within}
use Prim.Native.Nat.{◌+◌, ◌≤◌}
use mathlib.Core.Path.{◌≡◌}
use Rattle.fold_heard.proofs.run_within.Given as goal

abbrev pub invariant-loop-i : goal.invariant-loop-i
invariant-loop-i l = (l.used ≤ 512) × (l.i + run_within l.v.counts (drop l.i (records_of l.log)) ≡ run_within l.v.counts (records_of l.log))
