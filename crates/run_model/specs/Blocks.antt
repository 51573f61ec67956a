-- The blocks of a file of either form against its letters t and the r rows that stand in front of its records; SAB1 has none.
-- Document 02, K11.
-- Assumes nothing.
use Rattle.std.specs.Prelude.{ℕ, zero, suc, ◌-◌, ◌*◌, min, Bool, cond, ◌&&◌, ◌||◌, List, ltb, eqb}
use Rattle.model.specs.Numbers.{bad_file}
use Rattle.model.specs.Bytes.{same_bytes}
use Rattle.model.specs.Vector.{blocks_for}
use Rattle.model.specs.Block.{archive_in, sender_in, place_in, count_in, vector_in}
use Rattle.model.specs.File.{blocks_in, block_at, count_fits, Fault, fault}
use Rattle.run_model.specs.Runs.{block_fault_as}

-- block k of n: one of the r rows is as full as they ask, and is not the last before they end; behind them as in SAB1 [F162]
unfoldable pub count_fits_as : ℕ → ℕ → ℕ → ℕ → Bool
count_fits_as r n k c =
    cond (ltb k (blocks_for r))
    (eqb c (min 6 (r - 6 * k)) && (ltb (suc k) n || eqb (suc k) (blocks_for r)))
    (count_fits n k c)

-- block k of n against its place and block 0 [F162]
unfoldable pub agrees_as : ℕ → ℕ → ℕ → List ℕ → List ℕ → Bool
agrees_as r n k first b =
    eqb (place_in b) k
    && (eqb (sender_in b) (sender_in first)
    && (eqb (archive_in b) (archive_in first)
    && (same_bytes (vector_in b) (vector_in first) && count_fits_as r n k (count_in b))))

-- the first of 3, 4, 5 and 20 that holds of block k, or 0 [F163]
unfoldable pub file_block_fault_as : List ℕ → ℕ → List ℕ → ℕ → ℕ
file_block_fault_as t r f k =
    cond (eqb (block_fault_as t (block_at f k)) 0)
    (cond (agrees_as r (blocks_in f) k (block_at f 0) (block_at f k)) 0 bad_file)  -- 20
    (block_fault_as t (block_at f k))  -- 3, 4, 5

-- the first fault of the n blocks from k on [F163]
unfoldable pub blocks_fault_as : List ℕ → ℕ → List ℕ → ℕ → ℕ → Fault
blocks_fault_as t r f k zero = fault 0 0
blocks_fault_as t r f k (suc n) =
    cond (eqb (file_block_fault_as t r f k) 0) (blocks_fault_as t r f (suc k) n) (fault (file_block_fault_as t r f k) k)
