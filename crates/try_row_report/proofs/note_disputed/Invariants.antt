-- The identities of the disputed entries of a table are noted one behind another; their count is returned.
use Prim.Native.Nat.{◌≤◌}
use mathlib.Core.Path.{◌≡◌}
use lib.ListN.{length, take}
use Rattle.try_row_report.specs.Listed.{noted}
use Rattle.try_row_report.proofs.note_disputed.Given as goal

abbrev pub invariant-loop-i : goal.invariant-loop-i
invariant-loop-i l = (l.n ≤ 1024) × (l.c ≤ l.i) × (length l.notes ≡ 1024) × (length l.notes ≡ length l.initial.notes) × (take l.c l.notes ≡ noted l.tree l.i)
