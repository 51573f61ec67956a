-- How many places stand before the first that is all zero.
use Prim.Native.Nat.{◌+◌, ◌-◌, ◌*◌}
use mathlib.Core.Path.{◌≡◌}
use lib.ListN.{length, drop}
use Rattle.model.specs.Log.{records_in, records_of}
use Rattle.log_check.proofs.used.Given as goal

abbrev pub invariant-loop-i : goal.invariant-loop-i
invariant-loop-i l = l.i + length (records_in (512 - l.i) (drop (80 * l.i) l.log)) ≡ length (records_of l.log)
