-- An event happens.
use Rattle.plan_round.proofs.Rounds.{unit_low, other_low, acted, passed}
use Rattle.plan_round.proofs.event.Goals as goal

pub act-requires : goal.act-requires
act-requires c = search (unit_low)

pub returns-then-e-eq1 : goal.returns-then-e-eq1
returns-then-e-eq1 c = search (acted)

pub pass-requires : goal.pass-requires
pass-requires c = search (unit_low, other_low)

pub returns : goal.returns
returns c = search (passed)
