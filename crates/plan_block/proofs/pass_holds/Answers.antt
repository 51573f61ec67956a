-- A pass's event: two units of 0 to 7, and zeros behind them.
use Rattle.plan_block.proofs.Events.{pass_above, pass_far, pass_itself, pass_decides}
use Rattle.plan_block.proofs.pass_holds.Goals as goal

pub returns-then-u-gt7 : goal.returns-then-u-gt7
returns-then-u-gt7 c = search (pass_above)

pub returns-then-v-gt7 : goal.returns-then-v-gt7
returns-then-v-gt7 c = search (pass_far)

pub returns-then-u-v : goal.returns-then-u-v
returns-then-u-v c = search (pass_itself)

pub returns : goal.returns
returns c = search (pass_decides)
