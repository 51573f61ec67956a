-- A vector whose counts are numbers of 16 bits.
-- Assumes nothing.
use Rattle.std.specs.Prelude.{ℕ, ◌<◌, List, get_or}

pub record Small (v : List ℕ) : Type 0 where
  pub at : (u : ℕ) → u < 8 → get_or v u 0 < 65536
