-- The chain of the entry in row i.
use Rattle.base_names.proofs.Names.{key_is}
use native.Mathlib.Omega.{arith}
use Rattle.base_names.proofs.name_key.Goals as goal

pub returns : goal.returns
returns c = (search (key_is), omega arith)
