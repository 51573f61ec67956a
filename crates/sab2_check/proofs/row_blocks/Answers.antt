-- How many blocks the rows of a file ask for.
use Rattle.sab2_check.proofs.Checks.{blocks_asked}
use native.Mathlib.Omega.{arith}
use Rattle.sab2_check.proofs.row_blocks.Goals as goal

pub returns : goal.returns
returns c = (search (blocks_asked), omega arith)
