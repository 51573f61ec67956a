-- How many rows so many entries and asides have: the head, a row an entry, a row for six asides.
use Rattle.sab2_rows.proofs.Places.{rows_counted}
use native.Mathlib.Omega.{arith}
use Rattle.sab2_rows.proofs.row_count.Goals as goal

pub returns : goal.returns
returns c = (search (rows_counted), omega arith)
