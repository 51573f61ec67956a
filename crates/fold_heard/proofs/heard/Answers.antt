-- What each unit has heard, as the own unit can tell from a sound log and its base vector; of itself it is the held vector.
use Rattle.fold_heard.proofs.Rows.{hears_none, hears_next, hears_own}
use Rattle.fold_heard.proofs.Records.{unit_lent, few_used}
use native.Mathlib.Omega.{arith}
use borrow.Author.Rules.{rules}
use Rattle.fold_heard.proofs.heard.Goals as goal

pub loop-i-init : goal.loop-i-init
loop-i-init c = (search (few_used), search (hears_none))

pub hear-next-requires : goal.hear-next-requires
hear-next-requires c = (search rules, search (unit_lent))

pub loop-i-preserved : goal.loop-i-preserved
loop-i-preserved c = (omega arith, search (hears_next))

pub returns : goal.returns
returns c = search (hears_own)
