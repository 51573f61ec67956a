-- Where the folder f stands: 0 for the root, one above the row of a folder, 513 for neither.
use Rattle.base_ids.proofs.Rooted.{up_root, up_none, up_other, up_folder}
use native.Mathlib.Omega.{arith}
use Rattle.base_ids.proofs.up_of.Goals as goal

pub returns-then-f-eq0 : goal.returns-then-f-eq0
returns-then-f-eq0 c = (search (up_root), omega arith)

pub returns-in_default : goal.returns-in_default
returns-in_default c = (search (up_none, c.in_default.ensures.place), omega arith)

pub returns-then-not-is_folder : goal.returns-then-not-is_folder
returns-then-not-is_folder c = (search (up_other, c.in-Some.ensures.place), omega arith)

pub returns : goal.returns
returns c = (search (up_folder, c.in-Some.ensures.place), omega (arith, c.in-Some.ensures.within))
