-- The entries that open asides mark are flagged.
use mathlib.Core.Path.{◌≡◌}
use lib.ListN.{length, take}
use Rattle.tree_table.specs.Rows.{asides_from, tree_in}
use Rattle.tree_finish.specs.Finishing.{Marked}
use Rattle.tree_finish.proofs.flag.Given as goal

abbrev pub invariant-loop-i : goal.invariant-loop-i
invariant-loop-i l = (length l.table ≡ length l.initial.table) × Marked (take l.i (asides_from l.initial.table 0 l.size.asides)) l.table l.register l.size.entries l.size.asides (tree_in l.initial.table l.size.entries l.size.asides)
