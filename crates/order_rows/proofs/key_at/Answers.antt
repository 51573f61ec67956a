-- The identity in row i.
use Rattle.order_rows.proofs.Ways.{key_entry, key_aside}
use Rattle.order_rows.proofs.key_at.Goals as goal

pub returns-in-Entries : goal.returns-in-Entries
returns-in-Entries c = search (key_entry)

pub returns-in-Asides : goal.returns-in-Asides
returns-in-Asides c = search (key_aside)
