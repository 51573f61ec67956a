-- Lengths in bytes, and how many records a log holds.
-- Assumes nothing.
use Rattle.std.specs.Prelude.{ℕ}

-- a record, and a wish
abbrev pub record_size : ℕ
record_size = 80

-- a block: up to six records
abbrev pub block_size : ℕ
block_size = 512

-- a log: 512 places of 80
abbrev pub log_size : ℕ
log_size = 40960

-- a file lent for writing: 86 blocks
abbrev pub file_size : ℕ
file_size = 44032

-- the tree table: 1,024 rows of 72 and 1,024 rows of 12; also the work memory of an act and of a fold
abbrev pub tree_size : ℕ
tree_size = 86020

-- a list and a base: 512 rows of 72 and 512 rows of 12
abbrev pub base_size : ℕ
base_size = 43032

-- the most records of a log
abbrev pub log_places : ℕ
log_places = 512

-- the most entries of a base, and the most asides
abbrev pub base_places : ℕ
base_places = 512
