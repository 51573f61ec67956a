-- The k-th block.
use Rattle.plan_check.proofs.Walk.{last_part, whole_part}
use Rattle.plan_check.proofs.fault_at.Goals as goal

pub returns-then-end-at-lt-BLOCK_BYTES : goal.returns-then-end-at-lt-BLOCK_BYTES
returns-then-end-at-lt-BLOCK_BYTES c = search (last_part)

pub returns : goal.returns
returns c = search (whole_part)
