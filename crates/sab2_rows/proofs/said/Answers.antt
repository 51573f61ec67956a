-- A count in the head of a file's base.
use Rattle.sab2_rows.proofs.Loaded.{head_word}
use borrow.Author.Rules.{rules}
use Rattle.sab2_rows.proofs.said.Goals as goal

pub returns : goal.returns
returns c = (rw c.from.ensures (search (head_word)), search rules)
