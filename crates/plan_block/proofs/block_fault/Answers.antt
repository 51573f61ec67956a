-- The same, and before them 3 and 4.
use Rattle.plan_block.proofs.Blocks.{bad_letters_lem, bad_sum_lem, body_decides}
use Rattle.plan_block.proofs.block_fault.Goals as goal

pub returns-then-not-has_letters : goal.returns-then-not-has_letters
returns-then-not-has_letters c = search (bad_letters_lem)

pub returns-then-not-sums_hold : goal.returns-then-not-sums_hold
returns-then-not-sums_hold c = search (bad_sum_lem)

pub returns : goal.returns
returns c = search (body_decides)
