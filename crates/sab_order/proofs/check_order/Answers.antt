-- Checks an order; the count is the condition that failed first, 0 where the order is accepted.
use Rattle.std.proofs.Common.{refl, sym, ap, ◌∙◌}
use Rattle.order_check.specs.Failed.{failed_number}
use Rattle.sab_order.proofs.Calls.{checks}
use Rattle.sab_order.proofs.check_order.Goals as goal

pub returns-in-Ok-Some : goal.returns-in-Ok-Some
returns-in-Ok-Some c =
    let failed = ap (λ f. failed_number f) c.in-Ok-Some.field-0-is in
    checks _ _ _ _ _ c.in-Ok-Some.ensures (c.from-in-Ok-Some.ensures ∙ c.from.ensures ∙ sym failed) c.pack.ensures

pub returns-in-Ok-None : goal.returns-in-Ok-None
returns-in-Ok-None c =
    let failed = ap (λ f. failed_number f) c.in-Ok-None.field-0-is in
    checks _ _ _ _ _ c.in-Ok-None.ensures (sym failed) c.answer_word.ensures

pub returns-in-Err : goal.returns-in-Err
returns-in-Err c = checks _ _ _ _ _ c.in-Err.ensures refl c.answer_word-in-Err.ensures
