-- The base vector with the first n records counted.
use lib.ListN.{take}
use Rattle.model.specs.Log.{vector_on, records_of}
use Prim.Native.Nat.{◌≤◌}
use mathlib.Core.Path.{◌≡◌}
use Rattle.fold_log.proofs.counted.Given as goal

abbrev pub invariant-loop-i : goal.invariant-loop-i
invariant-loop-i l = (l.n ≤ 512) × (l.v.counts ≡ vector_on l.initial.v.counts (take l.i (records_of l.log)))
