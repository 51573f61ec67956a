-- The place of the folder of entry i: 0 for the root, else one above its row.
use Rattle.base_load.proofs.Entering.{reads_to, place_found, place_root, place_few, place_range}
use native.Mathlib.Omega.{arith}
use Rattle.base_load.proofs.place_in.Goals as goal

pub returns-then-not-is_identity : goal.returns-then-not-is_identity
returns-then-not-is_identity c = (search (place_root), omega arith)

pub role_of-requires : goal.role_of-requires
role_of-requires c = (search (reads_to), search (place_range))

pub returns : goal.returns
returns c = (search (place_found), search (place_few))
