-- Lists a file of either form as text, by way of a lent log, base and tree table.
use Rattle.std.proofs.Common.{◌≡◌, sym, ◌∙◌}
use borrow.Author.Tests.{eqb-true, eqb-false}
use Rattle.sab2_check.specs.Told.{file_code}
use Rattle.sab_listing.proofs.Calls.{size_wrong, prints_not, prints}
use Rattle.sab_listing.proofs.listing.Goals as goal

pub returns-then-length-ne4 : goal.returns-then-length-ne4
returns-then-length-ne4 c = search (size_wrong)

pub returns-then-not_lent : goal.returns-then-not_lent
returns-then-not_lent c =
    let one : file_code c.listing-l.result.judged ≡ 1 = eqb-true _ 1 (sym c.not_lent.ensures ∙ c.if-not_lent.true) in
    search (prints_not, one)

pub returns : goal.returns
returns c =
    let other : file_code c.listing-l.result.judged ≡ 1 → ⊥ = eqb-false _ 1 (sym c.not_lent.ensures ∙ c.if-not_lent.false) in
    search (prints, other)
