-- The same behind the records held, whose tree is laid in a work memory of zeros by a register of zeros.
use Rattle.tree_lookup.proofs.Working.{works_holds}
use Rattle.act.proofs.Acting.{reason_laid, laid}
use Rattle.act.proofs.reason_behind.Goals as goal

pub replay_state-laid-requires : goal.replay_state-laid-requires
replay_state-laid-requires c = (search, search, search)

pub reason_on-requires : goal.reason_on-requires
reason_on-requires c = (search, search (works_holds))

pub returns-clause-tells : goal.returns-clause-tells
returns-clause-tells c = search (reason_laid)

pub returns-clause-lays : goal.returns-clause-lays
returns-clause-lays c = search (laid)
