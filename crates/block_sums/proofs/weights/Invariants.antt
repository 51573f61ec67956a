-- The weights of the 254 words: how many of the first sums each word goes into.
use mathlib.Core.Path.{◌≡◌}
use lib.ListN.{length}
use Rattle.block_sums.specs.Weights.{Weights}
use Rattle.block_sums.proofs.weights.Given as goal

abbrev pub invariant-loop-i : goal.invariant-loop-i
invariant-loop-i l = (length l.by ≡ 254) × Weights l.by l.i
