-- The tree of a sound state, with so many records in its log and its held vector, in the lent table, which may hold anything
-- before.
use Rattle.state_check.proofs.Standing.{head-stands}
use borrow.Author.Rules.{rules}
use Rattle.listing.proofs.lay_state.Goals as goal

pub lay_tree-requires : goal.lay_tree-requires
lay_tree-requires c = (search (head-stands, rules), search rules)
