-- An entry is made in the folder f, which is at a place, in a row, the chain of its label given.
use Rattle.tree_maps.proofs.Keeping.{counted_chains, counted_room}
use Rattle.tree_maps.specs.Keys.{entered}
use native.Mathlib.Omega.{arith}
use borrow.Author.Rules.{rules}
use Rattle.tree_maps.proofs.enter_at.Goals as goal

pub push-requires : goal.push-requires
push-requires c = (search (counted_chains), search (counted_room), omega arith, search rules)

pub returns : goal.returns
unfolding entered
returns c = cc
