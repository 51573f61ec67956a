-- The entry in a row of the folder f gets another label.
use Rattle.tree_maps.proofs.Keeping.{pop_chains, pop_room}
use Rattle.tree_maps.specs.Keys.{relabelled}
use native.Mathlib.Omega.{arith}
use borrow.Author.Rules.{rules}
use Rattle.tree_maps.proofs.relabel.Goals as goal

pub push-requires : goal.push-requires
push-requires c = (search (pop_chains), search (pop_room), omega arith, search rules)

pub returns : goal.returns
unfolding relabelled
returns c = cc
