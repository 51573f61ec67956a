-- The n rows of a table are noted by the slots of their identities, each as one above its number.
use Rattle.order_rows.proofs.Notes.{notes_none, notes_more}
use Rattle.order_rows.proofs.note_rows.Goals as goal

pub loop-i-init : goal.loop-i-init
loop-i-init c = search (notes_none)

pub loop-i-preserved : goal.loop-i-preserved
loop-i-preserved c = search (notes_more)
