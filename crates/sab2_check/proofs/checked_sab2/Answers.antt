-- BadLength for a file that is not of 1 to 186 blocks, then its first fault; without one its list and base are left in the lent buffer.
use Rattle.sab2_check.proofs.Checks.{not_whole, whole_file, some_block, few_file, whole-checked}
use borrow.Author.Rules.{rules}
use Rattle.sab2_check.proofs.checked_sab2.Goals as goal

pub returns-then-not-whole_blocks_to-clause-outright : goal.returns-then-not-whole_blocks_to-clause-outright
returns-then-not-whole_blocks_to-clause-outright c = search (not_whole)

pub sab2_fault-requires : goal.sab2_fault-requires
sab2_fault-requires c = (search (whole_file), search (some_block), search (few_file), search rules)

pub returns-clause-outright : goal.returns-clause-outright
returns-clause-outright c = search (whole-checked)
