-- Examples of runs and of the blocks of a file, as rows of one table. Sums are asked for in the last three only, and are given.
-- Document 02, K11.
-- Assumes nothing.
use Rattle.std.specs.Prelude.{ℕ, suc, ◌*◌, Bool, true, false, ◌&&◌, List, [], ◌∷◌, ◌++◌, eqb, length, take, replicate}
use Rattle.model.specs.Bytes.{two, same_bytes, padded}
use Rattle.model.specs.Record.{Rec}
use Rattle.model.specs.Log.{no_counts}
use Rattle.model.specs.Block.{archive_in, sender_in, place_in, count_in, vector_in, block_records}
use Rattle.model.specs.File.{header_of, block_at, blocks_in, fault}
use Rattle.model.specs.Examples.{same_flag, same_records, same_fault}
use Rattle.run_model.specs.Runs.{letters2, body_as, block_fault_as, run_blocks}
use Rattle.run_model.specs.Blocks.{count_fits_as, agrees_as, blocks_fault_as}

-- ---- the rows

pub data Example : Type 0 where
  -- a place, places of 80 bytes in a run from there on, and what each block holds
  runs : ℕ → List Rec → List (List Rec) → Example
  -- how many rows and blocks, a block, its count, and whether it may have that
  counts : ℕ → ℕ → ℕ → ℕ → Bool → Example
  -- how many rows and blocks of zeros, and the first fault of these
  faults : ℕ → ℕ → ℕ → ℕ → Example
  -- how a block begins, zeros behind that, and its fault
  judges : List ℕ → ℕ → Example
  -- unit, place and two sums of an empty block that is a file without rows, and its fault
  alone : ℕ → ℕ → ℕ → ℕ → ℕ → Example
  -- the two sums of a block of one row, which a block of zeros follows; the fault of both and its place
  followed : ℕ → ℕ → ℕ → ℕ → Example
  -- archive, unit, place and vector of the second and last block, the first's being 7, 0, 0 and zeros; whether they agree
  agree : ℕ → ℕ → ℕ → List ℕ → Bool → Example

-- the first n of seven places, each of 80 bytes of its number
unfoldable pub places_to : ℕ → List Rec
places_to n =
    take n
    (replicate 80 1
    ∷ replicate 80 2
    ∷ replicate 80 3
    ∷ replicate 80 4
    ∷ replicate 80 5
    ∷ replicate 80 6
    ∷ replicate 80 7
    ∷ [])

-- a block of SAB2, archive 9, unit 3, place k, with this vector, holding this
unfoldable pub is_block : ℕ → List ℕ → List ℕ → List Rec → Bool
is_block k v b l =
    same_bytes (take 4 b) (83 ∷ 65 ∷ 66 ∷ 50 ∷ [])
    && (eqb (archive_in b) 9
    && (eqb (sender_in b) 3
    && (eqb (place_in b) k && (same_bytes (vector_in b) v && (eqb (count_in b) (length l) && same_records (block_records b) l)))))

-- a block of SAB2, archive 7, unit u, place k, holding this, with the sums x and y
unfoldable pub summed : ℕ → ℕ → List Rec → ℕ → ℕ → List ℕ
summed u k l x y = body_as letters2 (header_of 7 u k no_counts) l ++ (two x ++ two y)

-- these blocks from block i of f on, with places from k on
unfoldable pub are_blocks : List ℕ → ℕ → ℕ → List (List Rec) → Bool
are_blocks f i k [] = eqb (blocks_in f) i
are_blocks f i k (l ∷ ls) = is_block k (replicate 8 1) (block_at f i) l && are_blocks f (suc i) (suc k) ls

unfoldable pub right : Example → Bool
right (runs p l ls) = are_blocks (run_blocks letters2 (header_of 9 3 p (replicate 8 1)) l) 0 p ls
right (counts r n k c b) = same_flag (count_fits_as r n k c) b
right (faults r n k p) = same_fault (blocks_fault_as letters2 r (replicate (512 * n) 0) 0 n) (fault k p)
right (judges b n) = eqb (block_fault_as letters2 (padded 512 b)) n
right (alone u k x y n) = same_fault (blocks_fault_as letters2 0 (summed u k [] x y) 0 1) (fault n 0)
right (followed x y n p) = same_fault (blocks_fault_as letters2 1 (padded 1024 (summed 0 0 (places_to 1) x y)) 0 2) (fault n p)
right (agree a u k v b) =
    same_flag
    (agrees_as 1 2 1 (body_as letters2 (header_of 7 0 0 no_counts) (places_to 1)) (body_as letters2 (header_of a u k v) (places_to 1)))
    b

unfoldable pub all_right : List Example → Bool
all_right [] = true
all_right (r ∷ l) = right r && all_right l

-- ---- the table

unfoldable pub table : List Example
table =
    -- six a block, places from that of the first on; none has no block
    runs 5 (places_to 7) (places_to 6 ∷ (replicate 80 7 ∷ []) ∷ [])
    ∷ runs 0 (places_to 6) (places_to 6 ∷ [])
    ∷ runs 0 [] []
    -- eight rows: six, two; then records, the last block with at least one
    ∷ counts 8 4 0 6 true
    ∷ counts 8 4 0 5 false
    ∷ counts 8 4 1 2 true
    ∷ counts 8 4 1 6 false
    ∷ counts 8 4 2 6 true
    ∷ counts 8 4 2 5 false
    ∷ counts 8 4 3 1 true
    ∷ counts 8 4 3 0 false
    -- a file may end with its rows, and not before
    ∷ counts 8 2 1 2 true
    ∷ counts 8 1 0 6 false
    ∷ counts 6 1 0 6 true
    -- without rows an only block may be empty
    ∷ counts 0 1 0 0 true
    ∷ counts 0 2 1 0 false
    -- behind rows it may not
    ∷ counts 8 3 2 1 true
    ∷ counts 8 3 2 0 false
    -- letters, sums and header are asked before the rest, a block before the next
    ∷ faults 1 2 3 0
    ∷ judges (replicate 28 9) 3
    ∷ judges (83 ∷ 65 ∷ 66 ∷ 50 ∷ replicate 24 9) 4
    -- place, unit, archive and vector
    ∷ agree 7 0 1 no_counts true
    ∷ agree 7 0 0 no_counts false
    ∷ agree 7 1 1 no_counts false
    ∷ agree 8 0 1 no_counts false
    ∷ agree 7 0 1 (replicate 7 0 ++ (1 ∷ [])) false
    -- with the right sums: unit 8; place 1 of the first; a fault of the second is told there
    ∷ alone 8 0 29604 37110 5
    ∷ alone 0 1 29597 35359 20
    ∷ followed 40132 7094 3 1
    ∷ []
