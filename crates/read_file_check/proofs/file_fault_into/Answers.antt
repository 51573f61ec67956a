-- The first fault of an SAB1 file of n blocks: of its blocks, then of what they hold.
use Rattle.std.proofs.lemmas.Result.{err_from_is_err_and, on_ok_weaker}
use Rattle.refusal.proofs.Refusals.{not_zero}
use Rattle.read_file_check.proofs.Checks.{few_counted, block_refused, unread_left, held-told, read_left, file_indexed}
use borrow.Author.Rules.{rules}
use Rattle.read_file_check.proofs.file_fault_into.Goals as goal

pub returns-in_err-blocks_fault-clause-outright : goal.returns-in_err-blocks_fault-clause-outright
returns-in_err-blocks_fault-clause-outright c =
    let p = err_from_is_err_and c.from_residual.result c.from_residual.ensures.1 in
    rw (p.1, p.2) (search (block_refused, not_zero, c.in_err-blocks_fault.ensures))

pub returns-in_err-blocks_fault-clause-leaves : goal.returns-in_err-blocks_fault-clause-leaves
returns-in_err-blocks_fault-clause-leaves c = search (unread_left, not_zero, c.in_err-blocks_fault.ensures)

pub held_fault-requires : goal.held_fault-requires
held_fault-requires c = (search rules, search rules, search rules, search rules, search rules, search rules, search (few_counted, c.in_ok-blocks_fault.ensures, rules))

pub returns-clause-outright : goal.returns-clause-outright
returns-clause-outright c = search (held-told, c.in_ok-blocks_fault.ensures, rules)

pub returns-clause-leaves : goal.returns-clause-leaves
returns-clause-leaves c = search (read_left, c.in_ok-blocks_fault.ensures, rules)

pub returns-clause-holds : goal.returns-clause-holds
returns-clause-holds c = on_ok_weaker c.held_fault.result (λ h. file_indexed _ _ _ c.zero_vector-none.ensures h) c.held_fault.ensures.holds
