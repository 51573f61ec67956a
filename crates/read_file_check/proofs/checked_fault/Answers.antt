-- BadLength for a file that is not of 1 to 86 blocks, then its first fault.
use Rattle.read_file_check.proofs.Checks.{whole, some_block, few_blocks, not_whole, whole-checked}
use Rattle.read_file_check.proofs.checked_fault.Goals as goal

pub returns-then-not-whole_blocks : goal.returns-then-not-whole_blocks
returns-then-not-whole_blocks c = search (not_whole)

pub file_fault-requires : goal.file_fault-requires
file_fault-requires c = (search (whole), search (some_block), search (few_blocks))

pub returns : goal.returns
returns c = search (whole-checked)
