-- What is asked of the blocks of a run, and of a file.
-- Assumes nothing.
use Rattle.std.specs.Prelude.{ℕ, ◌+◌, ◌-◌, ◌*◌, ◌≤◌, ◌<◌, min, ◌⊎◌, ◌≡◌, true, List}
use Rattle.model.specs.Vector.{blocks_for}
use Rattle.model.specs.Block.{Header, archive_in, sender_in, place_in, count_in, vector_in}
use Rattle.model.specs.File.{blocks_in, block_at}
use Rattle.run_model.specs.Runs.{block_fault_as}
use Rattle.run_model.specs.Blocks.{count_fits_as}

-- block k at the front of f passes the block checks, has the header k behind h, and is as full as m places ask
pub record Fits (t : List ℕ) (h : Header) (m : ℕ) (f : List ℕ) (k : ℕ) : Type 0 where
  pub good : block_fault_as t (block_at f k) ≡ 0
  pub placed : place_in (block_at f k) ≡ h.place + k
  pub sent : sender_in (block_at f k) ≡ h.sender
  pub archived : archive_in (block_at f k) ≡ h.archive
  pub vectored : vector_in (block_at f k) ≡ h.vector
  pub filled : count_in (block_at f k) ≡ min 6 (m - 6 * k)

-- block k of a file with r rows agrees with its place and the first block
pub record Agreeing (t : List ℕ) (r : ℕ) (f : List ℕ) (k : ℕ) : Type 0 where
  pub good : block_fault_as t (block_at f k) ≡ 0
  pub placed : place_in (block_at f k) ≡ k
  pub sent : sender_in (block_at f k) ≡ sender_in (block_at f 0)
  pub archived : archive_in (block_at f k) ≡ archive_in (block_at f 0)
  pub vectored : vector_in (block_at f k) ≡ vector_in (block_at f 0)
  pub filled : count_fits_as r (blocks_in f) k (count_in (block_at f k)) ≡ true

-- q blocks hold m records behind r rows: all of them, and none is empty, but for an only block without rows
pub record Holds (r m q : ℕ) : Type 0 where
  pub some : 1 ≤ blocks_for r + q
  pub all : m ≤ 6 * q
  pub tight : (6 * q < m + 6) ⊎ ((r ≡ 0) × (q ≡ 1))
