-- The entry in a row leaves the folder f, which is at a place.
use Rattle.tree_maps.proofs.Keeping.{pop_long, pop_count}
use Rattle.tree_maps.specs.Keys.{left}
use borrow.Author.Rules.{rules}
use Rattle.tree_maps.proofs.leave.Goals as goal

pub count_down-requires : goal.count_down-requires
count_down-requires c = (search rules, search (pop_long), search (pop_count))

pub returns : goal.returns
unfolding left
returns c = cc
