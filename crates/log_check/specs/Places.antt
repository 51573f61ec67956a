-- Where records stand in bytes.
-- Assumes nothing.
use Rattle.std.specs.Prelude.{ℕ, ◌+◌, ◌*◌, ◌/◌, ◌%◌, ◌≤◌, ◌<◌, List, length}
use Rattle.model.specs.Bytes.{part}
use Rattle.model.specs.Record.{Rec}
use Rattle.log_check.specs.declared.Layout.{Layout}
use Rattle.log_check.specs.declared.Layout.TheVariants.{Log, File}

-- where record i stands: places of 80 bytes, or six to a block of 512 bytes behind its header
unfoldable pub offset_of : Layout → ℕ → ℕ
offset_of Log i = 80 * i
offset_of File i = 512 * (i / 6) + (28 + 80 * (i % 6))

-- record i
unfoldable pub laid_at : Layout → List ℕ → ℕ → Rec
laid_at k b i = part b (offset_of k i) 80

-- the first n records lie within the bytes
pub record Laid (k : Layout) (b : List ℕ) (n : ℕ) : Type 0 where
  pub inside : (i : ℕ) → i < n → offset_of k i + 80 ≤ length b
