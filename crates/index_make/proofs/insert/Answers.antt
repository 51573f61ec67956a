-- A row is put into an order of k rows.
use Rattle.index_make.proofs.Ordering.{inserted}
use Rattle.index_make.proofs.insert.Goals as goal

pub returns : goal.returns
returns c = inserted _ _ _ _ _ c.requires.0 c.requires.1 c.copy_within.ensures.after
