-- The first n rows of a file leave a base, whatever stood there; whether zeros stand behind the bytes of each.
use Rattle.std.proofs.Common.{◌≡◌, length, replicate}
use Rattle.sab2_rows.proofs.Loaded.{begun, one_loaded, one_blank, none-blank, all_loaded, all_blank, row_inside}
use borrow.Author.Rules.{rules}
use Rattle.sab2_rows.proofs.load_rows.Goals as goal

pub loop-i-init : goal.loop-i-init
loop-i-init c =
    let f : c.fill.new.self ≡ replicate (length c.args.base.now) 0 = c.fill.ensures.after (λ y e. e) in
    (search rules, search (begun), search (none-blank))

pub load_row-all-requires : goal.load_row-all-requires
load_row-all-requires c = (search rules, search rules, search rules, search rules, search (row_inside))

pub loop-i-preserved : goal.loop-i-preserved
loop-i-preserved c = (search rules, search (one_loaded), search (one_blank))

pub returns-clause-loaded : goal.returns-clause-loaded
returns-clause-loaded c = search (all_loaded)

pub returns-clause-tails : goal.returns-clause-tails
returns-clause-tails c = search (all_blank)
