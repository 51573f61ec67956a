-- The identity of a record.
use Rattle.model.specs.Record.{self_of, identity_at, unit, num}
use Rattle.tree_table.proofs.self_of.Goals as goal

pub returns : goal.returns
unfolding self_of identity_at unit num
returns c = cc
