-- The list is laid from byte 20 of a report on, behind zeros; the count of the entries is returned.
use Rattle.try_row_report.proofs.Listing.{list_part, list_laid}
use mathlib.Core.Path.{◌≡◌}
use lib.ListN.{length, replicate}
use borrow.Author.Rules.{rules}
use Rattle.try_row_report.proofs.lay_list.Goals as goal

pub list_new-requires : goal.list_new-requires
list_new-requires c =
    let f : c.fill.new.self ≡ replicate (length c.args.report.now) 0 = c.fill.ensures.after (λ y e. e) in
    (search rules, search rules, search (list_part))

pub returns-clause-laid : goal.returns-clause-laid
returns-clause-laid c =
    let f : c.fill.new.self ≡ replicate (length c.args.report.now) 0 = c.fill.ensures.after (λ y e. e) in
    search (list_laid)
