-- Examples of SAB2 files, as rows of one table. No sum is computed: files are taken in parts, and read without their sums. Whole files are
-- rows of sab2_examples.
-- Document 02, K11.
-- Assumes nothing.
use Rattle.std.specs.Prelude.{ℕ, suc, ◌+◌, ◌*◌, Bool, true, false, ◌&&◌, List, [], ◌∷◌, ◌++◌, eqb, get_or, length, take, drop, replicate}
use Rattle.model.specs.Bytes.{two, blank, same_bytes, part, padded}
use Rattle.model.specs.Vector.{vector_bytes}
use Rattle.model.specs.Record.{Rec, root}
use Rattle.model.specs.Log.{vector_of, no_counts, vector_on, log_bytes}
use Rattle.model.specs.Replay.{Aside, empty_tree, replay, trim}
use Rattle.model.specs.Table.{entry_rows, aside_rows, table_bytes}
use Rattle.model.specs.Block.{letters, archive_in, sender_in, place_in, vector_in, block_records}
use Rattle.model.specs.File.{header_of, block_at, Fault, fault}
use Rattle.model.specs.Listing.{head_line, seen_line, tree_lines}
use Rattle.model.specs.Examples.{◌·◌, makes_trace, stores, settles, same_flag, same_records, same_fault, unsealed, firsts_to, A}
use Rattle.base_model.specs.Base.{base_bytes}
use Rattle.call_model.specs.Read.{ReadBack}
use Rattle.call_model.specs.Outcome.{Outcome}
use Rattle.run_model.specs.Runs.{body_as}
use Rattle.sab2_model.specs.Rows.{row_count, row_start, row_long, rows_hold}
use Rattle.sab2_model.specs.Sab2.{sab2_of, sab2_blocks, sab2_fits, base_stands, records_fault_on, held_fault, either_fault}
use Rattle.sab2_model.specs.Calls.{wrote_sab2, read_sab2, read_either_of, Converted, or_converted, to_sab2_of, way_back, to_sab1_of, as_sab2, as_sab1, sab2_lines, Listed, either_listed}

-- ---- the rows

pub data Example : Type 0 where
  -- how many entries and asides, and how many rows
  rows : ℕ → ℕ → ℕ → Example
  -- how many entries and asides, a row; where its bytes stand in the base, and how many they are
  stands : ℕ → ℕ → ℕ → ℕ → ℕ → Example
  -- a unit, a list, the records folded, those of the log; the vector of each block, and what each holds
  writes : ℕ → ℕ → List Rec → List Rec → List ℕ → List (List Rec) → Example
  -- a list, the records folded, those of the log, written into lent bytes; how many blocks
  writes_into : ℕ → List Rec → List Rec → ℕ → Example
  -- a list, the records folded, those of the log: read back from the file without its sums
  reads_back : ℕ → List Rec → List Rec → Example
  -- how many bytes, and whether a file may have that length
  fits_file : ℕ → Bool → Example
  -- rows of 80 bytes, and whether they keep their layout
  holds : List Rec → Bool → Example
  -- the bytes of a base, and whether its list and it are sound
  sound : List ℕ → Bool → Example
  -- whether list and base stand, the list, the base vector, the vector of the header, the records, in a file of 9 blocks with 5 of
  -- rows; the fault
  finds : Bool → ℕ → List ℕ → List ℕ → List Rec → ℕ → ℕ → Example
  -- how many records come before, a record, and the fault, in a file with 5 blocks of rows
  finds_at : ℕ → Rec → ℕ → ℕ → Example
  -- how a file begins, how many bytes it has, with zeros, and its fault
  chooses : List ℕ → ℕ → ℕ → ℕ → Example
  -- how many bytes are lent as log and base, the file, and the fault under which nothing is read
  reads_none : ℕ → ℕ → List ℕ → ℕ → ℕ → Example
  -- how a file begins, how many bytes it has, and the fault of its way to SAB2
  there : List ℕ → ℕ → ℕ → ℕ → Example
  -- the same of its way back
  back : List ℕ → ℕ → ℕ → ℕ → Example
  -- how many bytes are lent where five are asked for, the fault of a file, and that of its conversion
  converts : ℕ → ℕ → ℕ → ℕ → ℕ → Example
  -- the fault of a file, its base vector, and the fault of its way back
  back_after : ℕ → ℕ → List ℕ → ℕ → ℕ → Example
  -- the unit and the records of an SAB1 file; what each block of the SAB2 file holds
  becomes : ℕ → List Rec → List (List Rec) → Example
  -- a unit, a list, records: the SAB2 file of an empty base becomes the SAB1 file of these blocks
  returns : ℕ → ℕ → List Rec → List (List Rec) → Example
  -- a file of three bytes that is converted, its bytes and how many blocks are said, into five lent ones
  laid : List ℕ → ℕ → List ℕ → Example
  -- how many bytes are lent as log, base, tree and text, where 1 is answered
  lends : ℕ → ℕ → ℕ → ℕ → Example
  -- a unit, the records folded, those of the log: the lines of the file, and how many records they count
  prints : ℕ → List Rec → List Rec → ℕ → Example

-- ---- what the rows ask

-- "SAB2"
abbrev pub S2 : List ℕ
S2 = 83 ∷ 65 ∷ 66 ∷ 50 ∷ []

-- the base that the records p leave, with the list m
unfoldable pub base_of : ℕ → List Rec → List ℕ
base_of m p = base_bytes (record { list = m; vector = vector_of p; tree = trim (replay p) })

-- the head of the list m, the vector v, e entries and a asides
unfoldable pub head_row : ℕ → List ℕ → ℕ → ℕ → Rec
head_row m v e a = padded 80 ((m ∷ 0 ∷ two e) ++ (two a ++ ((0 ∷ 0 ∷ []) ++ vector_bytes v)))

-- the row of the one entry that the records p leave
unfoldable pub entry_only : List Rec → Rec
entry_only p = padded 80 (entry_rows [] (replay p).entries)

-- the row of asides
unfoldable pub asides_row : List Aside → Rec
asides_row l = padded 80 (aside_rows l)

-- a block of these letters, archive 7, unit u, place k, with this vector, holding this
unfoldable pub is_block : List ℕ → ℕ → ℕ → List ℕ → List ℕ → List Rec → Bool
is_block t u k v b l =
    same_bytes (take 4 b) t
    && (eqb (archive_in b) 7
    && (eqb (sender_in b) u && (eqb (place_in b) k && (same_bytes (vector_in b) v && same_records (block_records b) l))))

-- these blocks from block k on, and zeros behind the last
unfoldable pub are_blocks : List ℕ → ℕ → List ℕ → List ℕ → ℕ → List (List Rec) → Bool
are_blocks t u v f k [] = blank (drop (512 * k) f)
are_blocks t u v f k (l ∷ ls) = is_block t u k v (block_at f k) l && are_blocks t u v f (suc k) ls

-- these blocks and nothing behind them
unfoldable pub is_file : List ℕ → ℕ → List ℕ → List ℕ → List (List Rec) → Bool
is_file t u v f ls = are_blocks t u v f 0 ls && eqb (length f) (512 * length ls)

unfoldable pub is_written : Outcome → ℕ → Bool
is_written o k = eqb o.number 0 && (eqb o.blocks k && eqb (length o.lent) 95232)

-- lent bytes of 9 are left, as far as the first of them says
unfoldable pub is_left : List ℕ → Bool
is_left b = eqb (get_or b 0 0) 9

-- blocks of archive 7 and unit u from place k on, their sums left out
unfoldable pub unsealed_from : ℕ → List ℕ → ℕ → List (List Rec) → List ℕ
unsealed_from u v k [] = []
unsealed_from u v k (l ∷ ls) = padded 512 (body_as S2 (header_of 7 u k v) l) ++ unsealed_from u v (suc k) ls

-- an SAB2 file of one block of rows and at most one of records, its sums left out; the rows are cut from the base p leaves
unfoldable pub unsealed2 : ℕ → ℕ → List Rec → List Rec → List ℕ
unsealed2 u m p l =
    unsealed_from u (vector_on (vector_of p) l) 0
    ((head_row m (vector_of p) (length (trim (replay p)).entries) (length (replay p).asides)
    ∷ entry_only p
    ∷ asides_row (take 6 (replay p).asides)
    ∷ asides_row (drop 6 (replay p).asides)
    ∷ [])
    ∷ l
    ∷ [])

-- the bytes of a base that are not all zero, as far as two entries and eight asides go, and its length
unfoldable pub alike : List ℕ → List ℕ → Bool
alike b c =
    same_bytes (take 168 b) (take 168 c) && (same_bytes (part b 36888 96) (part c 36888 96) && eqb (length b) (length c))

unfoldable pub is_read_back : ReadBack → ℕ → List ℕ → List Rec → Bool
is_read_back r u b l =
    eqb r.number 0
    && (eqb r.archive 7
    && (eqb r.sender u
    && (eqb r.records (length l) && (alike r.base b && same_bytes (take 160 r.log) (take 160 (log_bytes l))))))

unfoldable pub is_not_read : ReadBack → Fault → Bool
is_not_read r e = same_fault (fault r.number r.place) e && (eqb r.records 0 && (is_left r.log && is_left r.base))

-- refused, and the lent bytes are left
unfoldable pub is_not_converted : Converted → Fault → Bool
is_not_converted o e = same_fault (fault o.number o.place) e && (eqb o.blocks 0 && is_left o.lent)

-- 1, and nothing is written
unfoldable pub is_unlisted : Listed → Bool
is_unlisted o = eqb o.number 1 && (eqb o.size 0 && is_left o.text)

unfoldable pub right : Example → Bool
right (rows e a n) = eqb (row_count e a) n
right (stands e a i at n) = eqb (row_start e i) at && eqb (row_long e a i) n
right (writes u m p l v ls) = is_file S2 u v (sab2_of 7 u (base_of m p) l) ls && eqb (sab2_blocks (base_of m p) l) (length ls)
right (writes_into m p l k) = is_written (wrote_sab2 7 5 [] (base_of m p) l) k
right (reads_back m p l) =
    is_read_back (read_sab2 (unsealed2 3 m p l)) 3 (base_of m p) l
    && same_bytes (read_sab2 (unsealed2 3 m p l)).vector (vector_on (vector_of p) l)
right (fits_file n b) = same_flag (sab2_fits n) b
right (holds l b) = same_flag (rows_hold l) b
right (sound b x) = same_flag (base_stands b) x
right (finds s m v w l n p) = same_fault (held_fault s ((m ∷ replicate 7 0) ++ vector_bytes v) 5 9 w l) (fault n p)
right (finds_at i r n p) = same_fault (records_fault_on 255 no_counts 5 [] i (r ∷ [])) (fault n p)
right (chooses b k n p) = same_fault (either_fault (padded k b)) (fault n p)
right (reads_none k j f n p) = is_not_read (read_either_of (replicate k 9) (replicate j 9) f) (fault n p)
right (there b k n p) = is_not_converted (to_sab2_of (padded k b) (replicate 95232 9)) (fault n p)
right (back b k n p) = is_not_converted (to_sab1_of (padded k b) (replicate 44032 9)) (fault n p)
right (converts m n p k q) = is_not_converted (or_converted 5 (fault n p) 4 [] (replicate m 9)) (fault k q)
right (back_after n p v m q) = same_fault (way_back (fault n p) v) (fault m q)
right (becomes u l ls) = is_file S2 u (vector_of l) (as_sab2 (unsealed 7 u l)) ls
right (returns u m l ls) =
    is_file letters u (vector_of l) (as_sab1 (unsealed_from u (vector_of l) 0 ((head_row m no_counts 0 0 ∷ []) ∷ l ∷ []))) ls
right (laid g k b) =
    same_bytes (or_converted 5 (fault 0 0) k g (replicate 5 9)).lent b
    && (eqb (or_converted 5 (fault 0 0) k g (replicate 5 9)).blocks k && eqb (or_converted 5 (fault 0 0) k g (replicate 5 9)).number 0)
right (lends k j t x) = is_unlisted (either_listed [] (replicate k 9) (replicate j 9) (replicate t 9) (replicate x 9))
right (prints u p l n) =
    same_bytes
    (sab2_lines (unsealed2 u 255 p l))
    (head_line 7 u n ++ (seen_line (vector_of (p ++ l)) ++ tree_lines (table_bytes (replay (p ++ l)))))

unfoldable pub all_right : List Example → Bool
all_right [] = true
all_right (r ∷ l) = right r && all_right l

-- ---- the tables

-- rows of list and base, and what stands in the blocks
unfoldable pub layout : List Example
layout =
    -- the head alone; a row an entry; six asides a row; the most
    rows 0 0 1
    ∷ rows 3 0 4
    ∷ rows 0 6 2
    ∷ rows 0 7 3
    ∷ rows 512 512 599
    -- the head, two entries, six asides, one
    ∷ stands 2 7 0 0 24
    ∷ stands 2 7 1 24 72
    ∷ stands 2 7 2 96 72
    ∷ stands 2 7 3 36888 72
    ∷ stands 2 7 4 36960 12
    -- 0.1 with seven asides under its label is folded: head, entry, six asides, one, in one block; the records in the next
    ∷ writes 3 254
    (firsts_to 8)
    (stores 4 (0 · 2) (1 ∷ []) (0 · 1) ∷ [])
    (2 ∷ replicate 7 1)
    ((head_row 254 (replicate 8 1) 1 7
    ∷ entry_only (firsts_to 1)
    ∷ asides_row (take 6 (replay (firsts_to 8)).asides)
    ∷ asides_row (drop 6 (replay (firsts_to 8)).asides)
    ∷ [])
    ∷ (stores 4 (0 · 2) (1 ∷ []) (0 · 1) ∷ [])
    ∷ [])
    -- without records no block behind the rows
    ∷ writes 0 255 [] [] no_counts ((head_row 255 no_counts 0 0 ∷ []) ∷ [])
    -- seven records are two blocks behind the head's
    ∷ writes 0 255 [] (firsts_to 7)
    (replicate 7 1 ++ (0 ∷ []))
    ((head_row 255 no_counts 0 0 ∷ []) ∷ firsts_to 6 ∷ (makes_trace 3 (6 · 1) [] root A ∷ []) ∷ [])
    ∷ []

-- what writing leaves, and what is read back
unfoldable pub written : List Example
written =
    -- as long as what was lent; folded records are no refusal
    writes_into 1 (firsts_to 1) (stores 4 (0 · 2) (1 ∷ []) (0 · 1) ∷ []) 2
    -- list, base and log come back
    ∷ reads_back 255 (firsts_to 8) (stores 4 (0 · 2) (1 ∷ []) (0 · 1) ∷ [])
    ∷ []

-- lengths
unfoldable pub lengths : List Example
lengths =
    -- 1 to 186 whole blocks
    fits_file 0 false
    ∷ fits_file 511 false
    ∷ fits_file 512 true
    ∷ fits_file 44544 true
    ∷ fits_file 95232 true
    ∷ fits_file 95233 false
    ∷ fits_file 95744 false
    ∷ []

-- list and base, records, vector
unfoldable pub held : List Example
held =
    -- zeros behind the head, an entry, one aside; the first bytes of a second aside that is not counted
    holds (head_row 255 no_counts 0 0 ∷ []) true
    ∷ holds ((take 24 (head_row 255 no_counts 0 0) ++ (1 ∷ replicate 55 0)) ∷ []) false
    ∷ holds ((take 79 (head_row 255 no_counts 0 0) ++ (1 ∷ [])) ∷ []) false
    ∷ holds (head_row 255 no_counts 1 0 ∷ padded 80 (replicate 72 1) ∷ []) true
    ∷ holds (head_row 255 no_counts 1 0 ∷ padded 80 (replicate 73 1) ∷ []) false
    ∷ holds (head_row 255 no_counts 0 1 ∷ padded 80 (replicate 12 1) ∷ []) true
    ∷ holds (head_row 255 no_counts 0 1 ∷ padded 80 (replicate 13 1) ∷ []) false
    -- 512, and more than 512
    ∷ holds (head_row 255 no_counts 512 512 ∷ []) true
    ∷ holds (head_row 255 no_counts 513 0 ∷ []) false
    ∷ holds (head_row 255 no_counts 0 513 ∷ []) false
    -- the base counts a unit that is not listed; it names an identity above its vector
    ∷ sound (base_bytes (record { list = 253; vector = 0 ∷ 1 ∷ replicate 6 0; tree = empty_tree })) false
    ∷ sound (base_bytes (record { list = 255; vector = no_counts; tree = replay (firsts_to 1) })) false
    -- first 31, at place 0; then the records, from place 5 on; last the vector, at the last block
    ∷ finds false 255 no_counts (1 ∷ replicate 7 0) (replicate 80 0 ∷ []) 31 0
    ∷ finds true 255 no_counts (1 ∷ replicate 7 0) (replicate 80 0 ∷ []) 7 5
    ∷ finds true 255 no_counts (1 ∷ replicate 7 0) [] 20 8
    ∷ finds true 255 no_counts no_counts [] 0 0
    -- the seventh record stands in the next block
    ∷ finds true 255 no_counts no_counts (firsts_to 6 ++ (replicate 80 0 ∷ [])) 7 6
    -- 26 behind 7, before the rank and the number
    ∷ finds true 254 no_counts no_counts (makes_trace 32 (0 · 1) [] root A ∷ []) 7 5
    ∷ finds true 253 no_counts no_counts (makes_trace 3 (0 · 1) [] root A ∷ makes_trace 3 (1 · 2) (0 ∷ 1 ∷ []) root A ∷ []) 26 5
    ∷ finds true 253 no_counts no_counts (makes_trace 3 (2 · 1) [] root A ∷ makes_trace 3 (1 · 1) [] root A ∷ []) 26 5
    ∷ finds true 255 no_counts no_counts (makes_trace 3 (2 · 1) [] root A ∷ makes_trace 3 (1 · 1) [] root A ∷ []) 20 5
    -- numbers go on from the base vector, and the vector counts both; a record need not have seen what is folded
    ∷ finds true 255 (3 ∷ 1 ∷ replicate 6 0) (3 ∷ 2 ∷ replicate 6 0) (makes_trace 3 (1 · 2) (2 ∷ 1 ∷ []) root A ∷ []) 0 0
    ∷ finds true 255 (3 ∷ 1 ∷ replicate 6 0) (3 ∷ 2 ∷ replicate 6 0) (makes_trace 3 (1 · 1) [] root A ∷ []) 8 5
    ∷ finds true 255 (3 ∷ 1 ∷ replicate 6 0) (0 ∷ 1 ∷ replicate 6 0) (makes_trace 3 (1 · 2) (3 ∷ 1 ∷ []) root A ∷ []) 20 8
    -- the 513th record, malformed or not
    ∷ finds_at 512 (replicate 80 0) 11 90
    ∷ finds_at 511 (replicate 80 0) 7 90
    ∷ []

-- either form, and what is lent
unfoldable pub forms : List Example
forms =
    -- the letters choose whose sums are asked; neither is SAB1, of which 87 blocks are 2
    chooses S2 512 4 0
    ∷ chooses letters 512 4 0
    ∷ chooses (83 ∷ 65 ∷ 66 ∷ 51 ∷ []) 44544 2 0
    -- of SAB2 a part of a block and 187 are 2; 4 is asked before 31
    ∷ chooses S2 511 2 0
    ∷ chooses S2 95744 2 0
    ∷ chooses (S2 ++ (replicate 24 0 ++ (255 ∷ 1 ∷ []))) 512 4 0
    -- a log or base of another length, before the file; a refusal leaves log and base
    ∷ reads_none 1 43032 [] 1 0
    ∷ reads_none 40960 1 [] 1 0
    ∷ reads_none 40960 43032 [] 2 0
    -- each way has its own letters
    ∷ there S2 512 3 0
    ∷ back letters 512 3 0
    -- first the lent length; a refusal leaves what was lent
    ∷ converts 4 3 2 1 0
    ∷ converts 5 3 2 3 2
    ∷ []

-- the conversions
unfoldable pub ways : List Example
ways =
    -- 29 behind every fault of the file, and only for a base vector that is not all zero
    back_after 20 3 (1 ∷ replicate 7 0) 20 3
    ∷ back_after 0 0 (replicate 7 0 ++ (1 ∷ [])) 29 0
    ∷ back_after 0 0 no_counts 0 0
    -- all eight listed, nothing folded; an empty file has the head alone, and back again one block of no records
    ∷ becomes 3 (firsts_to 2) ((head_row 255 no_counts 0 0 ∷ []) ∷ firsts_to 2 ∷ [])
    ∷ becomes 3 [] ((head_row 255 no_counts 0 0 ∷ []) ∷ [])
    ∷ returns 3 255 (firsts_to 2) (firsts_to 2 ∷ [])
    -- a shorter list is lost
    ∷ returns 3 3 (firsts_to 2) (firsts_to 2 ∷ [])
    ∷ laid (1 ∷ 2 ∷ 3 ∷ []) 4 (1 ∷ 2 ∷ 3 ∷ 0 ∷ 0 ∷ [])
    ∷ []

-- the listing
unfoldable pub printed : List Example
printed =
    -- records not folded are counted; vector, tree and asides are those of all
    prints 3 (firsts_to 2) (settles 4 (0 · 2) (1 ∷ 1 ∷ []) (1 · 1) ∷ []) 1
    -- a log, base, tree or text of another length leaves no text
    ∷ lends 1 43032 86020 172544
    ∷ lends 40960 1 86020 172544
    ∷ lends 40960 43032 1 172544
    ∷ lends 40960 43032 86020 1
    ∷ []

-- all of them
unfoldable pub table : Bool
table =
    all_right layout
    && (all_right lengths && (all_right held && (all_right ways && (all_right forms && (all_right written && all_right printed)))))
