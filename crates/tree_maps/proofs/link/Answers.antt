-- The chain of an identity.
use mathlib.Core.Path.{refl}
use Rattle.tree_maps.specs.Keys.{link_of}
use native.Mathlib.Omega.{arith}
use Rattle.tree_maps.proofs.link.Goals as goal

pub returns : goal.returns
unfolding link_of
returns c = (refl, omega arith)
