-- Row i of n goes.
use Rattle.index_change.proofs.Changes.{row_taken_lem}
use Rattle.index_change.proofs.take_row.Goals as goal

pub returns : goal.returns
returns c = row_taken_lem _ _ _ _ _ _ c.requires.0 c.requires.1 c.requires.2 c.copy_within.ensures.after (c.fill.ensures.after (λ y e. e)) c.put16.ensures
