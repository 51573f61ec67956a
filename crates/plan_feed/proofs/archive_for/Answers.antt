-- The archive that a block is judged by: its own if it is the first.
use Rattle.plan_feed.proofs.Feeding.{own_archive, first_archive}
use Rattle.plan_feed.proofs.archive_for.Goals as goal

pub returns-then-f-eq0 : goal.returns-then-f-eq0
returns-then-f-eq0 c = search (own_archive)

pub returns : goal.returns
returns c = search (first_archive)
