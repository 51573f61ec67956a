-- The disputed entries of a table that were not noted are laid one behind another, in the order of the table; their count is
-- returned.
use Prim.Native.Nat.{◌≤◌}
use mathlib.Core.Path.{◌≡◌}
use lib.ListN.{length, take}
use Rattle.model.specs.Bytes.{padded}
use Rattle.try_row_report.specs.Listed.{listed_count, listed}
use Rattle.try_row_report.proofs.list_new.Given as goal

abbrev pub invariant-loop-i : goal.invariant-loop-i
invariant-loop-i l = (l.n ≤ 1024) × (l.c ≤ l.i) × (length l.list ≡ 4096) × (length l.list ≡ length l.initial.list) × (l.c ≡ listed_count l.tree (take l.count l.notes) l.i) × (l.list ≡ padded 4096 (listed l.tree (take l.count l.notes) l.i))
