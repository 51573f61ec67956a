-- The blocks of a file, taken one after another.
-- Assumes nothing.
use Rattle.std.specs.Prelude.{ℕ, zero, suc, ◌≡◌, List}
use Rattle.model.specs.File.{block_at}
use Rattle.call_model.specs.Outcome.{take_of}

-- the n blocks of the file g from k on are taken one after another into a log behind a base: each take answers 0, and they leave the log m
abbrev pub TakesBlocks : ℕ → ℕ → List ℕ → List ℕ → ℕ → ℕ → List ℕ → List ℕ → Type 0
TakesBlocks archive u base g k zero log m = log ≡ m
TakesBlocks archive u base g k (suc n) log m =
    ((take_of archive u log base (block_at g k)).number ≡ 0) × TakesBlocks archive u base g (suc k) n (take_of archive u log base (block_at g k)).log m
