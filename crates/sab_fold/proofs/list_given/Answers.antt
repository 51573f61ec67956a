-- The list in a byte.
use Rattle.sab_fold.proofs.Calls.{above, within}
use Rattle.sab_fold.proofs.list_given.Goals as goal

pub returns-then-list-gt255 : goal.returns-then-list-gt255
returns-then-list-gt255 c = search (above)

pub returns : goal.returns
returns c = search (within)
