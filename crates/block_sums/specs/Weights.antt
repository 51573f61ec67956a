-- The weights of the words of a block.
-- Assumes nothing.
use Rattle.std.specs.Prelude.{ℕ, ◌-◌, ◌<◌, ◌≡◌, List, get_or}

-- the weights of the first n words: of 254 words, word i goes into 254 - i of the first sums
pub record Weights (by : List ℕ) (n : ℕ) : Type 0 where
  pub weight : (i : ℕ) → i < n → get_or by i 0 ≡ 254 - i
