-- The same, and the records of the log are noted in the tables.
use borrow.Author.Rules.{rules}
use Rattle.refusal.proofs.Refusals.{not_zero}
use Rattle.call_guard.proofs.Opening.{early_refused, early_unfilled, judged_opened, passed_filled}
use Rattle.call_guard.proofs.open_into.Goals as goal

pub returns-in_err-early_check-clause-outright : goal.returns-in_err-early_check-clause-outright
returns-in_err-early_check-clause-outright c = search (early_refused, not_zero, c.in_err-early_check.ensures, rules)

pub returns-in_err-early_check-clause-filled : goal.returns-in_err-early_check-clause-filled
returns-in_err-early_check-clause-filled c = search (early_unfilled, not_zero, c.in_err-early_check.ensures)

pub returns-clause-outright : goal.returns-clause-outright
returns-clause-outright c = search (judged_opened, c.in_ok-early_check.ensures)

pub returns-clause-filled : goal.returns-clause-filled
returns-clause-filled c = search (passed_filled, c.in_ok-early_check.ensures)
