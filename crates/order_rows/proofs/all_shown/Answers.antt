-- Each of the n rows of a is shown by b.
use Rattle.order_rows.proofs.Ways.{all_none, all_stop, all_more, all_done}
use Rattle.order_rows.proofs.all_shown.Goals as goal

pub loop-i-init : goal.loop-i-init
loop-i-init c = search (all_none)

pub returns-then-not-is_shown : goal.returns-then-not-is_shown
returns-then-not-is_shown c = search (all_stop)

pub loop-i-preserved : goal.loop-i-preserved
loop-i-preserved c = search (all_more)

pub returns : goal.returns
returns c = search (all_done)
