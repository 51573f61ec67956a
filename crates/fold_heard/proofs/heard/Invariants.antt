-- What each unit has heard, as the own unit can tell from a sound log and its base vector; of itself it is the held vector.
use lib.ListN.{take}
use Rattle.model.specs.Log.{records_of}
use Rattle.fold_heard.proofs.Rows.{heard_all_lem}
use Prim.Native.Nat.{◌≤◌}
use mathlib.Core.Path.{◌≡◌}
use Rattle.fold_heard.proofs.heard.Given as goal

abbrev pub invariant-loop-i : goal.invariant-loop-i
invariant-loop-i l = (l.used ≤ 512) × (l.rows ≡ heard_all_lem l.initial.rows (take l.i (records_of l.log)))
