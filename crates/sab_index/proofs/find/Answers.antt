-- Looks up a label in a folder; the place is the unit of the entry, the count its number, and 0 for none.
use Rattle.std.proofs.Common.{refl}
use Rattle.sab_index.proofs.Calls.{finds}
use Rattle.sab_index.proofs.find.Goals as goal

pub returns-in-Ok : goal.returns-in-Ok
returns-in-Ok c = search (finds, c.in-Ok.ensures)

pub returns-in-Err : goal.returns-in-Err
returns-in-Err c = finds _ _ _ _ _ 0 c.folder_asked-folder.ensures c.in-Err.ensures refl refl c.answer_word.ensures
