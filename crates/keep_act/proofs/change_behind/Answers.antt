-- The same behind the records held, whose tree is laid in a work memory of zeros by a register of zeros.
use Rattle.tree_lookup.proofs.Working.{works_holds}
use Rattle.act.proofs.Acting.{reason_laid, laid}
use Rattle.keep_act.proofs.Acted.{laid_within, index_laid}
use Rattle.keep_act.proofs.change_behind.Goals as goal

pub replay_state-laid-requires : goal.replay_state-laid-requires
replay_state-laid-requires c = (search, search, search)

pub change_on-requires : goal.change_on-requires
change_on-requires c = (search, search, search (works_holds), search (laid_within), search)

pub returns-clause-tells : goal.returns-clause-tells
returns-clause-tells c = search (reason_laid)

pub returns-clause-changes : goal.returns-clause-changes
returns-clause-changes c = search (index_laid)

pub returns-clause-lays : goal.returns-clause-lays
returns-clause-lays c = search (laid)
