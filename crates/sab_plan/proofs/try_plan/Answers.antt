-- Tries a plan on eight lent logs, by way of a lent base and work memory, and writes what is printed of it into the text.
use Rattle.std.proofs.Common.{◌≡◌, sym, ◌∙◌}
use borrow.Author.Tests.{eqb-true, eqb-false}
use Rattle.refusal.specs.Refusals.{fault_code}
use Rattle.sab_plan.proofs.Calls.{size_wrong, not_lent, tells}
use Rattle.sab_plan.proofs.try_plan.Goals as goal

pub returns-then-length-ne4 : goal.returns-then-length-ne4
returns-then-length-ne4 c = search (size_wrong)

pub returns-then-not_lent : goal.returns-then-not_lent
returns-then-not_lent c =
    let one : fault_code c.try_plan-p.result.judged ≡ 1 = eqb-true _ 1 (sym c.not_lent.ensures ∙ c.if-not_lent.true) in
    search (not_lent, one, rw one at c.plan_word-word.ensures)

pub returns : goal.returns
returns c =
    let other : fault_code c.try_plan-p.result.judged ≡ 1 → ⊥ = eqb-false _ 1 (sym c.not_lent.ensures ∙ c.if-not_lent.false) in
    search (tells, other)
