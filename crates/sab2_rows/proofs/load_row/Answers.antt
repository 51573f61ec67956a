-- Row i of a file is put where it belongs in the base; whether zeros stand behind its bytes.
use Rattle.sab2_rows.proofs.Loaded.{row_put, row_tail}
use Rattle.sab2_rows.proofs.load_row.Goals as goal

pub returns-clause-put : goal.returns-clause-put
returns-clause-put c = search (row_put)

pub returns-clause-tail : goal.returns-clause-tail
returns-clause-tail c = search (row_tail)
