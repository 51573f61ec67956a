-- Number, place and count in one word.
use Rattle.sab_words.specs.Words.{packed}
use native.Mathlib.Omega.{arith}
use Rattle.sab_words.proofs.pack.Goals as goal

pub returns : goal.returns
unfolding packed
returns c = omega arith
