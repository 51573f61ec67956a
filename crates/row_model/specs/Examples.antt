-- Examples of rows of blocks, as rows of one table.
-- Document 02, K4, K8 and K10.
-- Assumes nothing.
use Rattle.std.specs.Prelude.{ℕ, suc, ◌*◌, Bool, true, false, cond, ◌&&◌, List, [], ◌∷◌, ◌++◌, eqb, length, take, drop, replicate}
use Rattle.model.specs.Bytes.{word, blank, same_bytes, padded, joined}
use Rattle.model.specs.Vector.{vector_bytes}
use Rattle.model.specs.Record.{Rec, root}
use Rattle.model.specs.Log.{vector_of, no_counts, vector_on, sound_after}
use Rattle.model.specs.Replay.{Entry, Tree, empty_tree, replay_from, replay, trim}
use Rattle.base_model.specs.Base.{empty_base, base_bytes}
use Rattle.model.specs.Block.{archive_in, sender_in, place_in, vector_in, block_records}
use Rattle.model.specs.File.{block_at}
use Rattle.call_model.specs.Outcome.{Outcome, Took, refused, taken, takes_all}
use Rattle.model.specs.Examples.{◌·◌, makes_folder, makes_trace, stores, removes, settles, moves, same_flag, same_records, firsts_to, A, B, C}
use Rattle.row_model.specs.Row.{Tried, tried, RowTaken, row_fits, try_all, took_row, take_row_of, became_disputed, Trial, reported, trial_lent, try_of, row_of, handed_row, hand_row_of}

-- ---- the rows

pub data Example : Type 0 where
  -- how many bytes, and whether a row may have that length
  fits_row : ℕ → Bool → Example
  -- the length of a row of zeros, and what stops it at its first block, or 0 if it has none; the log that is lent is too short
  stops : ℕ → ℕ → Example
  -- the number of the first checks, how many blocks were taken, and what stopped the row
  answers : ℕ → ℕ → ℕ → Example
  -- the own unit, a log, a row, and the number under which the row is turned away
  turns_away : ℕ → List ℕ → List ℕ → ℕ → Example
  -- how many bytes are lent for the copy, the tree and the report of a trial, and whether these are their lengths
  lends : ℕ → ℕ → ℕ → Bool → Example
  -- the own unit, a log, a row, how many bytes are lent for the copy, and the number under which the row is not tried
  tries_not : ℕ → List ℕ → List ℕ → ℕ → ℕ → Example
  -- the records folded, those of a log, how many blocks were taken, what stopped the row, the records then; how the report begins, and how many
  -- asides the tree has
  reports : List Rec → List Rec → ℕ → ℕ → List Rec → List ℕ → ℕ → Example
  -- the records of a log, those of a block that it takes, and the entries that become disputed
  disputes : List Rec → List Rec → List ℕ → Example
  -- the records folded, and the same
  disputes_on : List Rec → List Rec → List Rec → List ℕ → Example
  -- the own unit, the base vector, the records of a log, an asked vector; the vector that each block has, and the records of each
  cuts : ℕ → List ℕ → List Rec → List ℕ → List ℕ → List (List Rec) → Example
  -- the same, behind the first checks
  hands_out : ℕ → List ℕ → List Rec → List ℕ → List ℕ → List (List Rec) → Example
  -- a base vector, an asked vector, and the number under which no row is handed out behind the first checks
  asks : List ℕ → List ℕ → ℕ → Example
  -- the own unit, a log behind the base vector 1, how many bytes are lent, and the number under which no row is handed out to a vector below it
  hands_none : ℕ → List ℕ → ℕ → ℕ → Example

-- nothing was taken
unfoldable pub is_stopped : Tried → ℕ → List ℕ → Bool
is_stopped t n log = eqb t.taken 0 && (eqb t.stopped n && same_bytes t.log log)

-- the number, how many blocks were taken, what stopped the row, and how the log begins
unfoldable pub is_taken : RowTaken → ℕ → ℕ → ℕ → List ℕ → Bool
is_taken t n k s b =
    eqb t.number n
    && (eqb t.place 0 && (eqb t.taken k && (eqb t.stopped s && same_bytes (take (length b) t.log) b)))

-- tried into bytes of 9: turned away at place 0, and they are left
unfoldable pub is_untried : Trial → ℕ → Bool
is_untried t n =
    eqb t.number n
    && (eqb t.place 0
    && (same_bytes (take 3 t.copy) (replicate 3 9)
    && (same_bytes (take 3 t.tree) (replicate 3 9) && same_bytes (take 3 t.report) (replicate 3 9))))

unfoldable pub is_report : Trial → List Rec → List ℕ → ℕ → Bool
is_report t l b n =
    same_bytes t.copy (joined l)
    && (same_bytes (take (length b) t.report) b && (eqb (length t.report) 4116 && eqb (word t.tree 2) n))

unfoldable pub makers : List Entry → List ℕ
makers [] = []
makers (e ∷ l) = e.made ∷ makers l

-- t is the tree of the base
unfoldable pub disputes_taken : Tree → List Rec → Took → List ℕ → Bool
disputes_taken t l (refused n) ks = false
disputes_taken t l (taken m) ks = same_bytes (makers (became_disputed (replay_from t l) (replay_from t m))) ks

-- the base that the records p leave, all eight units listed
unfoldable pub base_after : List Rec → List ℕ
base_after p = base_bytes (record { list = 255; vector = vector_of p; tree = trim (replay p) })

-- the head of a base of this vector
unfoldable pub head_with : List ℕ → List ℕ
head_with v = 255 ∷ replicate 7 0 ++ vector_bytes v

-- a block of archive 7, unit u and place 0, with this vector and these records
unfoldable pub is_block : ℕ → List ℕ → List ℕ → List Rec → Bool
is_block u v b rs =
    eqb (archive_in b) 7
    && (eqb (sender_in b) u && (eqb (place_in b) 0 && (same_bytes (vector_in b) v && same_records (block_records b) rs)))

-- these blocks from block k on, and zeros behind the last
unfoldable pub are_blocks : ℕ → List ℕ → List ℕ → ℕ → List (List Rec) → Bool
are_blocks u v row k [] = blank (drop (512 * k) row)
are_blocks u v row k (rs ∷ l) = is_block u v (block_at row k) rs && are_blocks u v row (suc k) l

-- the row is these blocks, and has that many bytes
unfoldable pub is_row : ℕ → List ℕ → List ℕ → List (List Rec) → ℕ → Bool
is_row u v row l n = are_blocks u v row 0 l && eqb (length row) n

unfoldable pub is_handed : Outcome → ℕ → List ℕ → List (List Rec) → Bool
is_handed o u v l = eqb o.number 0 && (eqb o.blocks (length l) && is_row u v o.lent l 44032)

-- refused at place 0, and the lent bytes, of 9, are left
unfoldable pub is_refused : Outcome → ℕ → Bool
is_refused o n =
    eqb o.number n && (eqb o.place 0 && (eqb o.blocks 0 && same_bytes (take 3 o.lent) (replicate 3 9)))

unfoldable pub right : Example → Bool
right (fits_row n b) = same_flag (row_fits n) b
right (stops k n) = is_stopped (try_all 7 0 A [] (replicate k 0)) n A
right (answers n k s) = is_taken (took_row n A (tried k s B)) n (cond (eqb n 0) k 0) (cond (eqb n 0) s 0) (cond (eqb n 0) B A)
right (turns_away u log row n) = is_taken (take_row_of 7 u log empty_base row) n 0 0 (take 3 log)
right (lends c t p b) = same_flag (trial_lent (replicate c 9) (replicate t 9) (replicate p 9)) b
right (tries_not u log row c n) =
    is_untried (try_of 7 u log empty_base row (replicate c 9) (replicate 86020 9) (replicate 4116 9)) n
right (reports p l k n m b a) = is_report (reported (joined l) (base_after p) (tried k n (joined m))) m b a
right (disputes l rs ks) = sound_after no_counts [] l && disputes_taken empty_tree l (takes_all 255 no_counts l rs) ks
right (disputes_on p l rs ks) =
    sound_after no_counts [] (p ++ l) && disputes_taken (trim (replay p)) l (takes_all 255 (vector_of p) l rs) ks
right (cuts u p l v w rs) = sound_after p [] l && is_row u w (row_of 7 u (vector_on p l) l v) rs (512 * length rs)
right (hands_out u p l v w rs) =
    sound_after p [] l && is_handed (handed_row 7 u (joined l) (head_with p) v (replicate 3 9)) u w rs
right (asks p v n) = is_refused (handed_row 7 0 A (head_with p) v (replicate 3 9)) n
right (hands_none u log n e) = is_refused (hand_row_of 7 u log (padded 43032 (head_with (1 ∷ []))) [] (replicate n 9)) e

unfoldable pub all_right : List Example → Bool
all_right [] = true
all_right (r ∷ l) = right r && all_right l

-- ---- the table

unfoldable pub table : List Example
table =
    -- 0 to 86 whole blocks
    fits_row 0 true
    ∷ fits_row 512 true
    ∷ fits_row 44032 true
    ∷ fits_row 511 false
    ∷ fits_row 513 false
    ∷ fits_row 44544 false
    -- no block; a block that is refused, here for the length of the log, is not taken
    ∷ stops 0 0
    ∷ stops 512 1
    -- a refusal takes nothing and leaves the log
    ∷ answers 0 2 9
    ∷ answers 21 2 9
    -- first the unit, then a part of a block, then the log that is not sound
    ∷ turns_away 8 (1 ∷ replicate 40959 0) (replicate 513 0) 21
    ∷ turns_away 7 (1 ∷ replicate 40959 0) (replicate 513 0) 2
    ∷ turns_away 7 (1 ∷ replicate 40959 0) (replicate 512 0) 19
    -- the same of a trial, and first of all the lengths
    ∷ tries_not 8 (1 ∷ replicate 40959 0) (replicate 513 0) 40959 1
    ∷ tries_not 7 (1 ∷ replicate 40959 0) (replicate 513 0) 40960 2
    ∷ tries_not 7 (1 ∷ replicate 40959 0) [] 40960 19
    -- the lengths of what is lent for a trial
    ∷ lends 40959 86020 4116 false
    ∷ lends 40960 43012 4116 false
    ∷ lends 40960 86020 4115 false
    -- a block taken and 3 behind it: two entries disputed, the vector then, their identities
    ∷ reports [] (makes_trace 3 (0 · 1) [] root A ∷ makes_trace 3 (1 · 1) [] root B ∷ [])
    1
    3
    (makes_trace 3 (0 · 1) [] root A
    ∷ makes_trace 3 (1 · 1) [] root B
    ∷ makes_trace 3 (2 · 1) [] root B
    ∷ makes_trace 3 (3 · 1) [] root A
    ∷ [])
    (1 ∷ 3 ∷ 2 ∷ 0 ∷ 1 ∷ 0 ∷ 1 ∷ 0 ∷ 1 ∷ 0 ∷ 1 ∷ 0 ∷ replicate 8 0 ++ (0 ∷ 0 ∷ 1 ∷ 0 ∷ 1 ∷ 0 ∷ 1 ∷ 0 ∷ 0 ∷ []))
    2
    -- 0.1 and 0.2 are folded: the vector counts them, and an entry of the base becomes disputed
    ∷ reports (makes_trace 3 (0 · 1) [] root A ∷ makes_trace 3 (0 · 2) (1 ∷ []) root B ∷ [])
    []
    1
    0
    (makes_trace 3 (1 · 1) (2 ∷ []) root B ∷ [])
    (1 ∷ 0 ∷ 1 ∷ 0 ∷ 2 ∷ 0 ∷ 1 ∷ 0 ∷ replicate 12 0 ++ (0 ∷ 0 ∷ 2 ∷ 0 ∷ 0 ∷ []))
    1
    ∷ disputes_on (makes_trace 3 (0 · 1) [] root A ∷ []) [] (makes_trace 3 (1 · 1) (1 ∷ []) root A ∷ []) (0 · 1 ∷ [])
    -- one that an aside of the base disputed before; one of the log, by a record that is passed over
    ∷ disputes_on (makes_trace 3 (0 · 1) [] root A ∷ makes_trace 3 (1 · 1) [] root A ∷ []) [] (makes_trace 3 (2 · 1) (1 ∷ 1 ∷ []) root A ∷ []) []
    ∷ disputes_on (makes_trace 3 (0 · 1) [] root A ∷ []) (makes_trace 3 (1 · 1) (1 ∷ []) root B ∷ []) (makes_trace 3 (0 · 1) [] root B ∷ []) []
    -- an entry that was there and not disputed; one that was not there
    ∷ disputes (makes_trace 3 (0 · 1) [] root A ∷ []) (makes_trace 4 (1 · 1) [] root A ∷ []) (0 · 1 ∷ [])
    ∷ disputes (makes_trace 3 (1 · 1) [] root A ∷ []) (makes_trace 4 (0 · 1) [] root A ∷ []) (0 · 1 ∷ [])
    -- one that another aside disputed before; one that a settled aside disputed before
    ∷ disputes (makes_trace 3 (0 · 1) [] root A ∷ makes_trace 3 (1 · 1) [] root A ∷ []) (makes_trace 3 (2 · 1) [] root A ∷ []) []
    ∷ disputes (makes_trace 3 (0 · 1) [] root A ∷ makes_trace 3 (1 · 1) [] root A ∷ settles 3 (0 · 2) (1 ∷ 1 ∷ []) (1 · 1) ∷ [])
    (makes_trace 3 (2 · 1) [] root A ∷ [])
    (0 · 1 ∷ [])
    -- one that is settled then, and one that is removed then
    ∷ disputes (makes_trace 3 (0 · 1) [] root A ∷ []) (makes_trace 3 (1 · 1) [] root A ∷ settles 3 (1 · 2) (1 ∷ 1 ∷ []) (1 · 1) ∷ []) []
    -- a move that ranks before one that was held makes that one stand aside under 25
    ∷ disputes (makes_folder 3 (0 · 1) [] root A ∷ makes_folder 3 (0 · 2) (1 ∷ []) root B ∷ moves 3 (1 · 1) (2 ∷ []) (0 · 2) (0 · 1) B ∷ []) (moves 3 (0 · 3) (2 ∷ []) (0 · 1) (0 · 2) A ∷ []) (0 · 2 ∷ [])
    ∷ disputes (makes_trace 3 (0 · 1) [] root A ∷ []) (makes_trace 3 (1 · 1) [] root A ∷ removes 3 (1 · 2) (1 ∷ 1 ∷ []) (0 · 1) ∷ []) []
    -- 0.1 was marked, and removed by 2.2; 1.1 ranks before the remove and is unseen by it, so 0.1 stays and is disputed
    ∷ disputes (makes_trace 3 (0 · 1) [] root A ∷ makes_trace 3 (2 · 1) [] root A ∷ removes 3 (2 · 2) (1 ∷ 0 ∷ 1 ∷ []) (0 · 1) ∷ []) (stores 3 (1 · 1) (1 ∷ []) (0 · 1) ∷ []) (0 · 1 ∷ [])
    -- three of them, by rank of their makers
    ∷ disputes
    (makes_trace 3 (0 · 1) [] root C
    ∷ makes_trace 3 (1 · 1) [] root A
    ∷ makes_trace 3 (0 · 2) (1 ∷ 1 ∷ []) root B
    ∷ makes_trace 3 (2 · 1) (2 ∷ 1 ∷ []) root (68 ∷ [])
    ∷ [])
    (makes_trace 3 (3 · 1) (2 ∷ 1 ∷ 1 ∷ []) root A
    ∷ makes_trace 3 (4 · 1) (2 ∷ 1 ∷ 1 ∷ []) root B
    ∷ makes_trace 3 (5 · 1) (2 ∷ 1 ∷ 1 ∷ []) root (68 ∷ [])
    ∷ [])
    (1 · 1 ∷ 0 · 2 ∷ 2 · 1 ∷ [])
    -- eight records lacked: six in a first block, the other two in a second; six are one block, none is no block
    ∷ cuts 3 no_counts (firsts_to 8) [] (replicate 8 1) (firsts_to 6 ∷ (makes_trace 3 (6 · 1) [] root A ∷ makes_trace 3 (7 · 1) [] root A ∷ []) ∷ [])
    ∷ cuts 7 no_counts (firsts_to 6) [] (replicate 6 1 ++ (0 ∷ 0 ∷ [])) (firsts_to 6 ∷ [])
    ∷ cuts 0 no_counts (firsts_to 2) (1 ∷ 1 ∷ []) (1 ∷ 1 ∷ replicate 6 0) []
    -- 0.1 is folded, and the header counts it; what the asked vector counts is left out, and zeros stand behind the last block
    ∷ hands_out 0 (1 ∷ replicate 7 0) (stores 4 (0 · 2) (1 ∷ []) (0 · 1) ∷ makes_trace 3 (1 · 1) (1 ∷ []) root B ∷ []) (2 ∷ [])
    (2 ∷ 1 ∷ replicate 6 0)
    ((makes_trace 3 (1 · 1) (1 ∷ []) root B ∷ []) ∷ [])
    -- an asked vector that does not cover the base vector, though it is ahead of another unit
    ∷ asks (1 ∷ 0 ∷ 1 ∷ replicate 5 0) (1 ∷ 5 ∷ []) 27
    -- the lent row is as long as the longest file; then the unit, then the log, all of it before the vector asked for
    ∷ hands_none 8 (1 ∷ replicate 40959 0) 512 1
    ∷ hands_none 8 (1 ∷ replicate 40959 0) 44032 21
    ∷ hands_none 7 (1 ∷ replicate 40959 0) 44032 19
    ∷ []
