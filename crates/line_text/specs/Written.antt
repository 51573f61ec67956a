-- What a function that writes text leaves: the bytes at their place, and the place behind them.
-- Assumes nothing.
use Rattle.std.specs.Prelude.{ℕ, ◌+◌, ◌≡◌, List, length}
use Rattle.model.specs.Bytes.{put_at}

-- the bytes s were written from a place on, and r is the place behind them
pub record Wrote (before after : List ℕ) (at r : ℕ) (s : List ℕ) : Type 0 where
  pub bytes : after ≡ put_at before at s
  pub next : r ≡ at + length s
