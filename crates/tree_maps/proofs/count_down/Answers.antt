-- One entry less in the folder at a place.
use Rattle.tree_maps.specs.Keys.{counted_down}
use Rattle.tree_maps.proofs.count_down.Goals as goal

pub returns : goal.returns
unfolding counted_down
returns c = cc
