-- The n rows of a table are noted by the slots of their identities, each as one above its number.
use Rattle.order_rows.specs.Compared.{Noted}
use Rattle.order_rows.proofs.note_rows.Given as goal

abbrev pub invariant-loop-i : goal.invariant-loop-i
invariant-loop-i l = Noted l.rows l.table l.i l.notes
