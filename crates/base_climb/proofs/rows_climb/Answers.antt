-- The first n rows one after another, by what is known of them.
use borrow.Author.Rules.{rules}
use Rattle.base_climb.proofs.Climbing.{all_start, all_lost, all_goes}
use Rattle.base_climb.proofs.rows_climb.Goals as goal

pub loop-i-init : goal.loop-i-init
loop-i-init c = (search (all_start), search rules)

pub returns-in_default : goal.returns-in_default
returns-in_default c = search (all_lost, c.in_default.ensures.away)

pub loop-i-preserved : goal.loop-i-preserved
loop-i-preserved c = (search (all_goes, c.in-Some.ensures.away, c.in-Some.ensures.within), search rules)
