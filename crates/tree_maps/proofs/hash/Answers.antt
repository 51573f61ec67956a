-- The chain of a label in the folder f.
use mathlib.Core.Path.{refl}
use Rattle.tree_maps.specs.Keys.{weights, weighed}
use Rattle.tree_maps.proofs.Labels.{weight_at, weigh_next, hash_ends}
use native.Mathlib.Omega.{arith}
use Rattle.tree_maps.proofs.hash.Goals as goal

pub loop-i-init : goal.loop-i-init
unfolding weights weighed
loop-i-init c = (omega arith, refl, refl, omega arith)

pub weigh-sum-requires : goal.weigh-sum-requires
weigh-sum-requires c = search (weight_at)

pub loop-i-preserved : goal.loop-i-preserved
loop-i-preserved c = (omega arith, search, search (weigh_next), omega arith)

pub returns : goal.returns
returns c = (search (hash_ends), omega arith)
