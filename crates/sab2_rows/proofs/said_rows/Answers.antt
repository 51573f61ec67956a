-- How many rows the head of a file says.
use Rattle.sab2_rows.proofs.Loaded.{rows_are_said}
use borrow.Author.Rules.{rules}
use Rattle.sab2_rows.proofs.said_rows.Goals as goal

pub returns : goal.returns
returns c = (search (rows_are_said), search rules)
