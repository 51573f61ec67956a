-- How many rows an index has, at most 1,024.
use Rattle.std.proofs.Common.{rules}
use native.Mathlib.Omega.{arith}
use Rattle.index_model.specs.Index.{rows_in}
use Rattle.index_find.proofs.rows_in.Goals as goal

pub returns : goal.returns
unfolding rows_in
returns c = (search rules, omega arith)
