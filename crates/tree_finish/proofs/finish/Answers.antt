-- The table shown: flags for disputed entries, then present rows alone.
use Rattle.tree_finish.proofs.Finished.{marked_long, finish_done}
use native.Mathlib.Omega.{arith}
use Rattle.tree_finish.proofs.finish.Goals as goal

pub trim-requires : goal.trim-requires
trim-requires c = (search (marked_long), omega arith, omega arith)

pub returns : goal.returns
returns c = search (finish_done)
