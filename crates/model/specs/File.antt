-- The file: the whole log in blocks, how it is written, and how it is checked. It holds no list and no folded record.
-- Document 01, "Log, blocks and file"; the order of the checks, "When a call says no"; document 02, K10.
-- Assumes nothing.
use Rattle.std.specs.Prelude.{ℕ, zero, suc, ◌+◌, ◌-◌, ◌*◌, ◌/◌, ◌%◌, max, Bool, true, false, cond, ◌&&◌, ◌||◌, List, [], ◌∷◌, ◌++◌, ltb, leb, eqb, get_or, length, take, drop}
use Rattle.model.specs.Numbers.{bad_length, full_log, bad_file}
use Rattle.model.specs.Bytes.{same_bytes, part, padded}
use Rattle.model.specs.Record.{Rec}
use Rattle.model.specs.Log.{vector_of, no_counts, record_fault}
use Rattle.model.specs.Block.{Header, block_of, block_fault, archive_in, sender_in, place_in, count_in, vector_in}

-- ---- writing

-- six records a block; an empty log is one block [F35]
unfoldable pub block_count : ℕ → ℕ
block_count n = max 1 ((n + 5) / 6)

-- [F34]
unfoldable pub header_of : ℕ → ℕ → ℕ → List ℕ → Header
header_of archive u place v = record { archive = archive; sender = u; place = place; vector = v }

-- the block at a place of the file [F33]
unfoldable pub file_block : ℕ → ℕ → List Rec → ℕ → List ℕ
file_block archive u l k = block_of (header_of archive u k (vector_of l)) (take 6 (drop (6 * k) l))

-- the first n blocks
unfoldable pub file_to : ℕ → ℕ → List Rec → ℕ → List ℕ
file_to archive u l zero = []
file_to archive u l (suc n) = file_to archive u l n ++ file_block archive u l n

-- the file of a log
unfoldable pub file_of : ℕ → ℕ → List Rec → List ℕ
file_of archive u l = file_to archive u l (block_count (length l))

-- ---- reading

-- 1 to 86 whole blocks [F32] [F38]
unfoldable pub file_length : List ℕ → Bool
file_length f = eqb (length f % 512) 0 && (leb 1 (length f / 512) && leb (length f / 512) 86)

unfoldable pub blocks_in : List ℕ → ℕ
blocks_in f = length f / 512

unfoldable pub block_at : List ℕ → ℕ → List ℕ
block_at f k = part f (512 * k) 512

-- full before the last; a count of 0 only in an only block [F42]
unfoldable pub count_fits : ℕ → ℕ → ℕ → Bool
count_fits n k c = cond (ltb (suc k) n) (eqb c 6) (eqb n 1 || leb 1 c)

-- block k of n against its place and block 0 [F42]
unfoldable pub agrees : ℕ → ℕ → List ℕ → List ℕ → Bool
agrees n k first b =
    eqb (place_in b) k
    && (eqb (sender_in b) (sender_in first)
    && (eqb (archive_in b) (archive_in first)
    && (same_bytes (vector_in b) (vector_in first) && count_fits n k (count_in b))))

-- the first of 3, 4, 5 and 20 that holds of block k, or 0 [F82]
unfoldable pub file_block_fault : List ℕ → ℕ → ℕ
file_block_fault f k =
    cond (eqb (block_fault (block_at f k)) 0)
    (cond (agrees (blocks_in f) k (block_at f 0) (block_at f k)) 0 bad_file)  -- 20
    (block_fault (block_at f k))  -- 3, 4, 5

-- a refusal with its block's place; number 0 for none
pub record Fault : Type 0 where
  pub number : ℕ
  pub place : ℕ

unfoldable pub fault : ℕ → ℕ → Fault
fault n p = record { number = n; place = p }

-- the first fault of the n blocks from k on: all checks of a block come before those of the next [F82]
unfoldable pub blocks_fault : List ℕ → ℕ → ℕ → Fault
blocks_fault f k zero = fault 0 0
blocks_fault f k (suc n) = cond (eqb (file_block_fault f k) 0) (blocks_fault f (suc k) n) (fault (file_block_fault f k) k)

-- how many records the blocks of a file count, once these have passed: then every block but the last has six
unfoldable pub records_counted : List ℕ → ℕ
records_counted f = 6 * (blocks_in f - 1) + count_in (block_at f (blocks_in f - 1))

-- record i of a file: place i % 6 of block i / 6
unfoldable pub file_record : List ℕ → ℕ → Rec
file_record f i = part f (512 * (i / 6) + (28 + 80 * (i % 6))) 80

-- the n records from i on
unfoldable pub file_records_from : List ℕ → ℕ → ℕ → List Rec
file_records_from f i zero = []
file_records_from f i (suc n) = file_record f i ∷ file_records_from f (suc i) n

-- the records of a file, once its blocks have passed
unfoldable pub file_records : List ℕ → List Rec
file_records f = file_records_from f 0 (records_counted f)

-- the first fault of records behind others, i of them: 11 for a 513th, then 7, 20, 8, 9, all of a record before those of the next; those
-- before stand last first [F43] [F83]
unfoldable pub records_fault : List Rec → ℕ → List Rec → Fault
records_fault pre i [] = fault 0 0
records_fault pre i (r ∷ l) =
    cond (ltb i 512)
    (cond (eqb (record_fault no_counts pre r) 0) (records_fault (r ∷ pre) (suc i) l) (fault (record_fault no_counts pre r) (i / 6)))
    (fault full_log (i / 6))  -- 11

-- the header's vector against the record counts, at the last block [F48]
unfoldable pub counts_fault : List ℕ → Fault
counts_fault f = cond (same_bytes (vector_in (block_at f 0)) (vector_of (file_records f))) (fault 0 0) (fault bad_file (blocks_in f - 1))

-- the first fault, or else the next [F81]
unfoldable pub or_else : Fault → Fault → Fault
or_else a b = cond (eqb a.number 0) b a

-- every check of a file of 1 to 86 blocks: block by block, then record by record, then the vector; the first that fails is the answer [F81]
unfoldable pub file_fault : List ℕ → Fault
file_fault f = or_else (blocks_fault f 0 (blocks_in f)) (or_else (records_fault [] 0 (file_records f)) (counts_fault f))

-- 2 for a file that is not of 1 to 86 blocks, then every check
abbrev pub checked_fault : List ℕ → Fault
checked_fault f = cond (file_length f) (file_fault f) (fault bad_length 0)
