-- An identity gets a role.
use Rattle.tree_maps.specs.Keys.{named}
use Rattle.tree_maps.proofs.name.Goals as goal

pub returns : goal.returns
unfolding named
returns c = cc
