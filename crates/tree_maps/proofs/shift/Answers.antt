-- The entry in a row leaves the folder f, at the place from, and goes to the folder g, at the place to, under another label.
use Rattle.tree_maps.proofs.Keeping.{leave_chains, leave_long, leave_count, leave_room}
use Rattle.tree_maps.specs.Keys.{shifted}
use borrow.Author.Rules.{rules}
use Rattle.tree_maps.proofs.shift.Goals as goal

pub enter-requires : goal.enter-requires
enter-requires c = (search (leave_chains), search (leave_long), search rules, search (leave_count), search (leave_room), search rules, search rules)

pub returns : goal.returns
unfolding shifted
returns c = cc
