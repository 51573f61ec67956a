-- The first fault of an SAB2 file of n blocks; without one its list and base are left in the lent buffer.
use Rattle.std.proofs.lemmas.Result.{err_from_is_err_and}
use Rattle.refusal.proofs.Refusals.{not_zero}
use Rattle.sab2_check.proofs.Checks.{block_refused, blocks_pass, rows_lie, base_refused, stands_so, behind_decides, base_left_lem}
use borrow.Author.Rules.{rules}
use Rattle.sab2_check.proofs.sab2_fault.Goals as goal

pub returns-in_err-blocks_fault_as-clause-outright : goal.returns-in_err-blocks_fault_as-clause-outright
returns-in_err-blocks_fault_as-clause-outright c =
    let p = err_from_is_err_and c.from_residual.result c.from_residual.ensures.1 in
    rw (p.1, p.2) (search (block_refused, not_zero, c.in_err-blocks_fault_as.ensures))

pub base_stands-requires : goal.base_stands-requires
base_stands-requires c = (search rules, search rules, search (rows_lie, c.in_ok-blocks_fault_as.ensures, rules))

pub returns-then-not-base_stands-clause-outright : goal.returns-then-not-base_stands-clause-outright
returns-then-not-base_stands-clause-outright c = search (base_refused, c.in_ok-blocks_fault_as.ensures, rules)

pub behind_fault-requires : goal.behind_fault-requires
behind_fault-requires c = (search rules, search rules, search rules, search (blocks_pass, c.in_ok-blocks_fault_as.ensures, rules), search (stands_so, c.in_ok-blocks_fault_as.ensures, rules), search (base_left_lem), search rules)

pub returns-in_err-behind_fault-clause-outright : goal.returns-in_err-behind_fault-clause-outright
returns-in_err-behind_fault-clause-outright c =
    let p = err_from_is_err_and c.from_residual-in_err-behind_fault.result c.from_residual-in_err-behind_fault.ensures.1 in
    rw (p.1, p.2) (search (behind_decides, c.in_ok-blocks_fault_as.ensures, c.in_err-behind_fault.ensures, rules))

pub returns-clause-outright : goal.returns-clause-outright
returns-clause-outright c = search (behind_decides, c.in_ok-blocks_fault_as.ensures, c.in_ok-behind_fault.ensures, rules)

pub returns-clause-loads : goal.returns-clause-loads
returns-clause-loads c = search (base_left_lem)
