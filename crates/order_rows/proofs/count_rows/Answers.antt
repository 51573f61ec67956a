-- How many rows are used.
use Rattle.order_rows.proofs.Ways.{count_entries, count_asides}
use Rattle.order_rows.proofs.count_rows.Goals as goal

pub returns-in-Entries : goal.returns-in-Entries
returns-in-Entries c = search (count_entries)

pub returns-in-Asides : goal.returns-in-Asides
returns-in-Asides c = search (count_asides)
