-- The archive of a plan; 0 where it has no whole block.
use Rattle.plan_check.proofs.Walk.{no_archive, first_archive}
use Rattle.plan_check.proofs.archive_of.Goals as goal

pub returns-then-plan-lt-BLOCK_BYTES : goal.returns-then-plan-lt-BLOCK_BYTES
returns-then-plan-lt-BLOCK_BYTES c = search (no_archive)

pub returns : goal.returns
returns c = search (first_archive)
