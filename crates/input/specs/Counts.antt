-- How many bytes were read.
-- Assumes nothing.
use Rattle.std.specs.Prelude.{ℕ, Result, Ok, Err}
use Rattle.input.specs.declared.Broken.{Broken}

-- the bytes read, before a read failed too
abbrev pub count_of : Result ℕ Broken → ℕ
count_of (Ok n) = n
count_of (Err broken) = broken.count
