-- The number k is an identity.
use Rattle.std.proofs.Common.{rules}
use Rattle.tree_maps.specs.Keys.{is_identity}
use Rattle.tree_maps.proofs.is_identity.Goals as goal

pub returns-else-k-ge8 : goal.returns-else-k-ge8
unfolding is_identity
returns-else-k-ge8 c = search rules

pub returns-then-k-ge8 : goal.returns-then-k-ge8
unfolding is_identity
returns-then-k-ge8 c = search rules
