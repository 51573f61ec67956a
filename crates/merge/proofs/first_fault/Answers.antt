-- Every check of the first file; where it has no fault, the table has the positions of its records.
use Rattle.std.proofs.lemmas.Result.{on_ok_weaker}
use Rattle.read_file_check.proofs.Checks.{whole, some_block, few_blocks, not_whole, whole-checked}
use Rattle.merge.proofs.Calls.{positions}
use borrow.Author.Rules.{rules}
use Rattle.merge.proofs.first_fault.Goals as goal

pub returns-then-not-whole_blocks-clause-outright : goal.returns-then-not-whole_blocks-clause-outright
returns-then-not-whole_blocks-clause-outright c = search (not_whole)

pub file_fault_into-requires : goal.file_fault_into-requires
file_fault_into-requires c = (search (whole), search (some_block), search (few_blocks))

pub returns-clause-outright : goal.returns-clause-outright
returns-clause-outright c = search (whole-checked)

pub returns-clause-holds : goal.returns-clause-holds
returns-clause-holds c = on_ok_weaker c.file_fault_into.result (λ h. positions _ _ _ h) c.file_fault_into.ensures.holds
