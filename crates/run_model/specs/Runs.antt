-- Blocks with the letters t, and runs of places of 80 bytes in such blocks. SAB1's blocks are those of its letters.
-- Document 02, K11.
-- Assumes nothing.
use Rattle.std.specs.Prelude.{ℕ, zero, suc, ◌+◌, ◌*◌, cond, List, [], ◌∷◌, ◌++◌, length, take, drop}
use Rattle.model.specs.Numbers.{bad_letters, bad_sum, bad_header}
use Rattle.model.specs.Bytes.{two, four, same_bytes, padded, joined}
use Rattle.model.specs.Vector.{blocks_for, vector_bytes}
use Rattle.model.specs.Record.{Rec}
use Rattle.model.specs.Block.{Header, sealed, sums_hold, header_holds}

-- ---- a block

-- the letters SAB2 [F154]
abbrev pub letters2 : List ℕ
letters2 = 83 ∷ 65 ∷ 66 ∷ 50 ∷ []

-- the first 28 bytes, with the count of places used [F154]
unfoldable pub head_as : List ℕ → Header → ℕ → List ℕ
head_as t h n = t ++ (four h.archive ++ ((h.sender ∷ n ∷ []) ++ (two h.place ++ vector_bytes h.vector)))

-- the 508 bytes before the sums [F154]
unfoldable pub body_as : List ℕ → Header → List Rec → List ℕ
body_as t h l = head_as t h (length l) ++ padded 480 (joined l)

unfoldable pub block_as : List ℕ → Header → List Rec → List ℕ
block_as t h l = sealed (body_as t h l)

-- the first of 3, 4 and 5 that holds of a block of 512 bytes, or 0 [F163]
unfoldable pub block_fault_as : List ℕ → List ℕ → ℕ
block_fault_as t b =
    cond (same_bytes (take 4 b) t)
    (cond (sums_hold b)
    (cond (header_holds b) 0 bad_header)  -- 5
    bad_sum)  -- 4
    bad_letters  -- 3

-- ---- a run of places in blocks

-- the header k blocks behind h
unfoldable pub behind : Header → ℕ → Header
behind h k = record { archive = h.archive; sender = h.sender; place = h.place + k; vector = h.vector }

-- block k of the run whose first block has the header h: six a block [F156]
unfoldable pub run_block : List ℕ → Header → List Rec → ℕ → List ℕ
run_block t h l k = block_as t (behind h k) (take 6 (drop (6 * k) l))

-- its first n blocks
unfoldable pub run_to : List ℕ → Header → List Rec → ℕ → List ℕ
run_to t h l zero = []
run_to t h l (suc n) = run_to t h l n ++ run_block t h l n

-- as many as are asked for; none has no block [F156]
unfoldable pub run_blocks : List ℕ → Header → List Rec → List ℕ
run_blocks t h l = run_to t h l (blocks_for (length l))
