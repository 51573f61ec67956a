-- One entry more in the folder at a place.
use Rattle.tree_maps.specs.Keys.{counted_up}
use Rattle.tree_maps.proofs.count_up.Goals as goal

pub returns : goal.returns
unfolding counted_up
returns c = cc
