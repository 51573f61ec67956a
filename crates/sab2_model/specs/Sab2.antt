-- The SAB2 file: list and base in rows, then the records of the log, in blocks; how it is written, and how it is checked.
-- Document 02, K11.
-- Assumes nothing.
use Rattle.std.specs.Prelude.{ℕ, suc, ◌+◌, ◌-◌, ◌*◌, ◌/◌, ◌%◌, Bool, cond, ◌&&◌, List, [], ◌∷◌, ◌++◌, ltb, leb, eqb, get_or, length, take, drop}
use Rattle.model.specs.Numbers.{bad_length, malformed, full_log, bad_file, unlisted}
use Rattle.model.specs.Lengths.{block_size, log_places}
use Rattle.model.specs.Bytes.{word, same_bytes}
use Rattle.model.specs.Vector.{blocks_for}
use Rattle.model.specs.Record.{Rec, unit, well_formed}
use Rattle.model.specs.Log.{vector_on, record_fault}
use Rattle.model.specs.Block.{Header, vector_in}
use Rattle.model.specs.File.{header_of, blocks_in, block_at, Fault, fault, or_else, file_record, file_records_from, records_counted, file_records, checked_fault}
use Rattle.base_model.specs.Base.{is_listed, lists_all, base_vector, sound_base}
use Rattle.run_model.specs.Runs.{letters2, behind, run_blocks}
use Rattle.run_model.specs.Blocks.{blocks_fault_as}
use Rattle.sab2_model.specs.Rows.{row_count, rows_said, base_rows, base_from, rows_hold}

-- ---- writing

-- rows, then records, places counted over the whole file [F156]
unfoldable pub sab2_from : Header → List Rec → List Rec → List ℕ
sab2_from h rows l = run_blocks letters2 h rows ++ run_blocks letters2 (behind h (blocks_for (length rows))) l

-- the file of the base b and the records l; its vector counts folded records [F156] [F157]
unfoldable pub sab2_of : ℕ → ℕ → List ℕ → List Rec → List ℕ
sab2_of archive u b l = sab2_from (header_of archive u 0 (vector_on (base_vector b) l)) (base_rows b) l

-- how many blocks it has [F156]
unfoldable pub sab2_blocks : List ℕ → List Rec → ℕ
sab2_blocks b l = blocks_for (row_count (word b 2) (word b 4)) + blocks_for (length l)

-- ---- reading: the blocks

-- 1 to 186 whole blocks [F159]
unfoldable pub sab2_fits : ℕ → Bool
sab2_fits n = eqb (n % block_size) 0 && (leb 1 (n / block_size) && leb (n / block_size) 186)

-- how many rows the head says, in the first place of block 0
unfoldable pub said_rows : List ℕ → ℕ
said_rows f = rows_said (file_record f 0)

-- how many blocks they ask for
unfoldable pub row_blocks : List ℕ → ℕ
row_blocks f = blocks_for (said_rows f)

-- the first fault of the blocks [F163]
unfoldable pub sab2_blocks_fault : List ℕ → Fault
sab2_blocks_fault f = blocks_fault_as letters2 (said_rows f) f 0 (blocks_in f)

-- ---- reading: what the blocks hold, once they have passed

-- the rows [F158]
unfoldable pub sab2_rows : List ℕ → List Rec
sab2_rows f = file_records_from f 0 (said_rows f)

-- list and base [F158]
unfoldable pub sab2_base : List ℕ → List ℕ
sab2_base f = base_from (sab2_rows f)

-- the blocks behind those of the rows
unfoldable pub record_part : List ℕ → List ℕ
record_part f = drop (512 * row_blocks f) f

-- how many records there are; none without such blocks [F158]
unfoldable pub sab2_counted : List ℕ → ℕ
sab2_counted f = records_counted (record_part f)

-- the records, in blocks as those of an SAB1 file [F158]
unfoldable pub sab2_records : List ℕ → List Rec
sab2_records f = file_records (record_part f)

-- ---- reading: list and base, records, vector

-- the list or base of a file breaks the layout, or is not sound
abbrev pub bad_base : ℕ
bad_base = 31

-- a list and base that K10 does not answer with 19: each unit that the base counts is listed, and the base is sound [F161]
unfoldable pub base_stands : List ℕ → Bool
base_stands b = lists_all (get_or b 0 0) (base_vector b) && sound_base b

-- the rows keep their layout, and the list and base that they leave are sound [F160] [F161]
unfoldable pub rows_stand : List Rec → Bool
rows_stand rows = rows_hold rows && base_stands (base_from rows)

-- the first of 7, 26, 20, 8 and 9 that holds of a record behind others, or 0; m is the list, v the base vector [F164]
unfoldable pub read_fault : ℕ → List ℕ → List Rec → Rec → ℕ
read_fault m v pre r =
    cond (well_formed r)
    (cond (is_listed m (unit r)) (record_fault v pre r) unlisted)  -- 26
    malformed  -- 7

-- the first fault of records behind i others, in blocks from the place p on: 11 for a 513th, then those of a record [F164]
unfoldable pub records_fault_on : ℕ → List ℕ → ℕ → List Rec → ℕ → List Rec → Fault
records_fault_on m v p pre i [] = fault 0 0
records_fault_on m v p pre i (r ∷ l) =
    cond (ltb i log_places)
    (cond (eqb (read_fault m v pre r) 0) (records_fault_on m v p (r ∷ pre) (suc i) l) (fault (read_fault m v pre r) (p + i / 6)))
    (fault full_log (p + i / 6))  -- 11

-- the vector w of the header against the records folded and those of the file, at the last of n blocks [F165]
unfoldable pub counts_fault_on : List ℕ → ℕ → List ℕ → List Rec → Fault
counts_fault_on v n w l = cond (same_bytes w (vector_on v l)) (fault 0 0) (fault bad_file (n - 1))

-- 31 at place 0 unless list and base stand, then record by record, then the vector: base b, records l from place p on, header
-- vector w, n blocks [F166]
unfoldable pub held_fault : Bool → List ℕ → ℕ → ℕ → List ℕ → List Rec → Fault
held_fault stands b p n w l =
    or_else (cond stands (fault 0 0) (fault bad_base 0))
    (or_else (records_fault_on (get_or b 0 0) (base_vector b) p [] 0 l) (counts_fault_on (base_vector b) n w l))

-- every check of a file of 1 to 186 blocks: block by block, then what they hold [F166]
unfoldable pub sab2_fault : List ℕ → Fault
sab2_fault f =
    or_else (sab2_blocks_fault f)
    (held_fault (rows_stand (sab2_rows f)) (sab2_base f) (row_blocks f) (blocks_in f) (vector_in (block_at f 0)) (sab2_records f))

-- 2 for a file that is not of 1 to 186 blocks, then every check [F159]
unfoldable pub checked_sab2 : List ℕ → Fault
checked_sab2 f = cond (sab2_fits (length f)) (sab2_fault f) (fault bad_length 0)

-- ---- either form

-- the first four bytes are SAB2; else a file is SAB1 [F167]
unfoldable pub is_sab2 : List ℕ → Bool
is_sab2 f = same_bytes (take 4 f) letters2

-- every check of a file of the form that it has [F167]
unfoldable pub either_fault : List ℕ → Fault
either_fault f = cond (is_sab2 f) (checked_sab2 f) (checked_fault f)
