-- The lent log and base are emptied, whatever stood in them.
use Rattle.std.proofs.Common.{◌≡◌, length, replicate}
use borrow.Author.Rules.{rules}
use Rattle.refusal.proofs.Refusals.{not_zero}
use Rattle.start.proofs.Emptied.{not_started, emptied}
use Rattle.start.proofs.start.Goals as goal

pub returns-in_err-early_check : goal.returns-in_err-early_check
returns-in_err-early_check c = search (not_started, not_zero, c.in_err-early_check.ensures, rules)

pub returns : goal.returns
returns c = let f : c.fill.new.self ≡ replicate (length c.args.log.now) 0 = c.fill.ensures.after (λ y e. e) in search (emptied, c.in_ok-early_check.ensures)
