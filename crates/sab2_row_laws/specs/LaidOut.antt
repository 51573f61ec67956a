-- A base that keeps its layout, as far as its rows need.
-- Assumes nothing.
use Rattle.std.specs.Prelude.{ℕ, ◌+◌, ◌-◌, ◌*◌, ◌≤◌, ◌≡◌, true, List, length, drop}
use Rattle.model.specs.Bytes.{word, blank, part}

-- its length, its counts, and zeros in unused places
pub record LaidOut (b : List ℕ) : Type 0 where
  pub long : length b ≡ 43032
  pub entries : word b 2 ≤ 512
  pub asides : word b 4 ≤ 512
  pub behind_entries : blank (part b (24 + 72 * word b 2) (36864 - 72 * word b 2)) ≡ true
  pub behind_asides : blank (drop (36888 + 12 * word b 4) b) ≡ true
