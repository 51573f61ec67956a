-- The records that stand in work from the place start up to the place used are put in by rank among the records of a log, a
-- rising run at a time.
use Prim.Native.Nat.{◌≤◌, ◌-◌}
use mathlib.Core.Path.{◌≡◌}
use lib.ListN.{length}
use Rattle.model.specs.Log.{records_of, log_bytes}
use Rattle.take_row_store.specs.Grown.{held_in}
use Rattle.take_row_store.proofs.put_in.Given as goal

abbrev pub invariant-loop-done : goal.invariant-loop-done
invariant-loop-done l = (l.start ≤ l.done) × (l.done ≤ l.used) × (l.used ≤ 512) × (length l.log ≡ length l.initial.log) × (l.log ≡ log_bytes (held_in (records_of l.initial.log) l.start l.work l.done))

abbrev pub decreases-loop-done : goal.decreases-loop-done
decreases-loop-done l = l.used - l.done
