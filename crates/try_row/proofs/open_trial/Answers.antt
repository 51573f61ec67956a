-- The state of a trial, checked in this order: 1 (the three buffers too), 21, 2, 19; the records of its log are noted in the
-- tables.
use Rattle.try_row.proofs.Tried.{opens}
use Rattle.try_row.proofs.open_trial.Goals as goal

pub returns-clause-outright : goal.returns-clause-outright
returns-clause-outright c = search (opens)
