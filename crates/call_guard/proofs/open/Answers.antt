-- The log and the base of a call, checked in their order.
use borrow.Author.Rules.{rules}
use Rattle.refusal.proofs.Refusals.{not_zero}
use Rattle.call_guard.proofs.Opening.{early_refused, judged_opened}
use Rattle.call_guard.proofs.open.Goals as goal

pub returns-in_err-early_check : goal.returns-in_err-early_check
returns-in_err-early_check c = search (early_refused, not_zero, c.in_err-early_check.ensures, rules)

pub returns : goal.returns
returns c = search (judged_opened, c.in_ok-early_check.ensures)
