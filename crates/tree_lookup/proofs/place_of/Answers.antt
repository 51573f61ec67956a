-- The place of the folder f, one above its row; 0 for the root, and for what has no row.
use Rattle.tree_lookup.proofs.Working.{works_reads}
use Rattle.tree_lookup.proofs.Homes.{place_none, place_aside, place_row}
use Rattle.tree_lookup.proofs.Below.{identity_in}
use native.Mathlib.Omega.{arith}
use Rattle.tree_lookup.proofs.place_of.Goals as goal

pub returns-then-not-is_identity : goal.returns-then-not-is_identity
returns-then-not-is_identity c = (search (place_none), omega arith)

pub role_of-role-requires : goal.role_of-role-requires
role_of-role-requires c = (search (works_reads), search (identity_in))

pub returns-then-size-role : goal.returns-then-size-role
returns-then-size-role c = (search (place_aside), omega arith)

pub returns : goal.returns
returns c = (search (place_row), omega arith)
