-- The first n records leave the log: the others move to the front, and their places become zero.
use Rattle.fold_log.proofs.Dropped.{front_dropped}
use Rattle.fold_log.proofs.drop_front.Goals as goal

pub returns : goal.returns
returns c = search (front_dropped, c.copy_within.ensures.after, c.fill.ensures.after (λ y e. e))
