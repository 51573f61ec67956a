-- The identity that has a role.
use Rattle.tree_lookup.proofs.Names.{name-entry, name-aside}
use Rattle.tree_lookup.proofs.name_at.Goals as goal

pub returns-then-role-size : goal.returns-then-role-size
returns-then-role-size c = search (name-entry)

pub returns : goal.returns
returns c = search (name-aside)
