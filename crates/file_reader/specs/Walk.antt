-- The record that a reader of a file stands before.
-- Assumes nothing.
use Rattle.std.specs.Prelude.{ℕ, zero, suc, ◌+◌, ◌*◌, ◌/◌, ◌%◌, cond, List, leb, ltb, length, replicate}
use Rattle.model.specs.Bytes.{put_at}
use Rattle.model.specs.File.{file_record}

-- record i of a file of at most 86 blocks, or zeros where the file has no such place
unfoldable pub record_or_zeros : List ℕ → ℕ → List ℕ
record_or_zeros f i =
    cond (leb 516 i) (replicate 80 0)
    (cond (ltb (length f) (512 * (i / 6) + (28 + 80 * (i % 6)) + 80)) (replicate 80 0) (file_record f i))

-- a log into which the first n records of a file are laid, each at its place
unfoldable pub walked_to : List ℕ → List ℕ → ℕ → List ℕ
walked_to log f zero = log
walked_to log f (suc n) = put_at (walked_to log f n) (80 * n) (record_or_zeros f n)
