-- The first of 2 to 6 that holds of a block given, or 0.
use Rattle.std.proofs.Common.{rules}
use Rattle.refusal.proofs.Refusals.{not_zero}
use Rattle.take_beside.proofs.Checks.{given_length, given_bad, given_other, given_good}
use Rattle.take_beside.proofs.given_fault.Goals as goal

ruleset ways = (given_length, given_bad, given_other, given_good, not_zero, rules)

pub returns-then-b-ne-BLOCK_BYTES : goal.returns-then-b-ne-BLOCK_BYTES
returns-then-b-ne-BLOCK_BYTES c = search ways

pub returns-in_err-block_fault : goal.returns-in_err-block_fault
returns-in_err-block_fault c = search ways

pub returns-then-archive_in-archive : goal.returns-then-archive_in-archive
returns-then-archive_in-archive c = search ways

pub returns : goal.returns
returns c = search ways
