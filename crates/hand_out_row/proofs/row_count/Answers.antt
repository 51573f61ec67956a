-- How many blocks n records are.
use native.Mathlib.Omega.{arith}
use Rattle.model.specs.Vector.{blocks_for}
use Rattle.hand_out_row.proofs.row_count.Goals as goal

pub returns : goal.returns
unfolding blocks_for
returns c = omega arith
