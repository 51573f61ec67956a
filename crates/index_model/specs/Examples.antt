-- Examples of the ordered index, as rows of one table.
-- Document 02, K6 to K8 and K10.
-- Assumes nothing.
use Rattle.std.specs.Prelude.{ℕ, ◌-◌, Bool, true, false, ◌&&◌, List, [], ◌∷◌, ◌++◌, eqb, length, take, drop, replicate}
use Rattle.model.specs.Bytes.{two, same_bytes, part, padded, joined}
use Rattle.model.specs.Record.{Rec, root}
use Rattle.model.specs.Log.{no_counts, sound_after, log_bytes}
use Rattle.model.specs.Replay.{empty_tree, judge, replay_from, replay, trim}
use Rattle.base_model.specs.Base.{empty_base}
use Rattle.call_model.specs.Outcome.{Outcome, outcome, stamped, act_number}
use Rattle.model.specs.Examples.{◌·◌, makes_folder, makes_trace, stores, removes, renames, moves, same_flag, A, B, C}
use Rattle.row_model.specs.Row.{RowTaken, row_taken}
use Rattle.index_model.specs.Index.{folder_key, key_before, index_of, rows_in, first_in, list_in, entries_in, find_in, find_of, Range, range_of}
use Rattle.index_model.specs.Change.{put_in}
use Rattle.index_model.specs.Acting.{change_in, step_in}
use Rattle.index_model.specs.Kept.{indexed_of, index_fits, both_fit, Kept, kept_of, start_kept, act_kept, RowKept, row_kept_of}

-- ---- the rows

pub data Example : Type 0 where
  -- a folder and a label, another folder and label, and whether the first come before the second
  comes : ℕ → List ℕ → ℕ → List ℕ → Bool → Example
  -- the records of a log, and the entries in the rows of its index
  indexes : List Rec → List ℕ → Example
  -- the records of a log, a folder, the first row of it in the index, and its entries
  lists : List Rec → ℕ → ℕ → List ℕ → Example
  -- the records of a log, a folder, a label, and the entry found; 0 for none
  finds : List Rec → ℕ → List ℕ → ℕ → Example
  -- the records of a log and one more behind them, and the entries in the rows of the index that is changed by this one record
  changes : List Rec → Rec → List ℕ → Example
  -- how many bytes, and whether a call that carries an index may be lent so many
  lends : ℕ → Bool → Example
  -- how many bytes of index and of work memory, and whether a take may be lent so many
  lends_both : ℕ → ℕ → Bool → Example
  -- how many bytes an index and a label have, and the numbers that looking up and listing answer
  answers : ℕ → ℕ → ℕ → ℕ → Example
  -- the number that a call answers without an index, whether the index lent to it fits, how many bytes that has, the number that it answers
  -- then, and the byte that the index begins with: 7 as it was, 9 as it is to be, 0 for none
  keeps : ℕ → Bool → ℕ → ℕ → ℕ → Example
  -- how many blocks of a row of an empty log were taken, and the byte that the index begins with: 7 as it was, 0 made afresh
  keeps_row : ℕ → ℕ → Example
  -- the records of a log, a place in its index, and the bytes that stand there
  writes : List Rec → ℕ → List ℕ → Example
  -- any bytes as an index, a folder, and its first row and how many it has
  ranges : List ℕ → ℕ → ℕ → ℕ → Example
  -- any bytes as an index, and how many rows it has
  counts : List ℕ → ℕ → Example
  -- any bytes as an index, a folder, a label, and the entry found
  looks_up : List ℕ → ℕ → List ℕ → ℕ → Example
  -- how many rows an index has before and after one is put into it
  puts : ℕ → ℕ → Example
  -- the number that a call answers without an index, whether the index lent to it fits, the place that it answers then, and the byte that
  -- the log begins with: 7 as it was, 9 as the call leaves it
  leaves : ℕ → Bool → ℕ → ℕ → Example
  -- the number of a row that was taken, how many blocks were taken, whether the index lent fits, how many bytes that has; the number then, and
  -- how the index begins
  renews_row : ℕ → ℕ → Bool → ℕ → ℕ → ℕ → Example
  -- a log, how many bytes are lent, the number that making the index answers, and the byte that the lent bytes begin with: 7 as they were
  freshens : List ℕ → ℕ → ℕ → ℕ → Example
  -- the records of a log and a wish of unit 0: the act is accepted, and its index is one made afresh
  acts : List Rec → List ℕ → Example
  -- the same of the whole call
  acts_whole : List Rec → List ℕ → Example
  -- the records folded, those of a log, and the entries in the rows of the index
  indexes_on : List Rec → List Rec → List ℕ → Example
  -- starting with a unit, on a log, a base and an index of sevens: the number, and the bytes that index and base then begin with
  starts : ℕ → ℕ → ℕ → ℕ → Example

abbrev begins : List ℕ → ℕ → Bool
begins [] n = eqb n 0
begins (x ∷ l) n = eqb x n

-- the folders 0.1, 1.1 and 0.2 in the root, under the labels C, A and B
unfoldable pub folders : List Rec
folders = makes_folder 3 (0 · 1) [] root C ∷ makes_folder 3 (1 · 1) [] root A ∷ makes_folder 3 (0 · 2) (1 ∷ 1 ∷ []) root B ∷ []

-- traces in them: 0.3 in 1.1, 0.4 and 0.5 in 0.2, of which 0.5 has the front of the label of 0.4
unfoldable pub traces : List Rec
traces =
    makes_trace 4 (0 · 3) (2 ∷ 1 ∷ []) (1 · 1) A
    ∷ makes_trace 4 (0 · 4) (3 ∷ 1 ∷ []) (0 · 2) (66 ∷ 66 ∷ [])
    ∷ makes_trace 4 (0 · 5) (4 ∷ 1 ∷ []) (0 · 2) B
    ∷ []

-- a call lent k bytes as the index
abbrev kept_from : Bool → List ℕ → ℕ → Outcome → List ℕ → Kept
kept_from fit log k o j = kept_of fit log [] (replicate k 7) o j

-- a row taken by a call lent k bytes as the index
abbrev row_kept_from : Bool → ℕ → RowTaken → RowKept
row_kept_from fit k o = row_kept_of fit [] empty_base (replicate k 7) o

-- what a call answers, and how the index and the lent bytes begin then
unfoldable pub is_kept : Kept → ℕ → ℕ → ℕ → Bool
is_kept k n x y = eqb k.number n && (begins k.index x && begins k.lent y)

unfoldable pub is_row_kept : RowKept → ℕ → ℕ → Bool
is_row_kept k n x = eqb k.number n && begins k.index x

unfoldable pub is_fresh : Outcome → ℕ → ℕ → Bool
is_fresh o n x = eqb o.number n && begins o.lent x

unfoldable pub is_put : List ℕ → ℕ → Bool
is_put i m = eqb (rows_in i) m && eqb (length i) 40964

unfoldable pub is_range : Range → ℕ → ℕ → Bool
is_range r i n = eqb r.first i && eqb r.count n

-- the same rows, as far as there are fewer than ten
unfoldable pub same_rows : List ℕ → List ℕ → Bool
same_rows i j = same_bytes (take 404 i) (take 404 j)

unfoldable pub right : Example → Bool
right (comes f t g s b) = same_flag (key_before (folder_key f) t (folder_key g) s) b
right (indexes l ks) = sound_after no_counts [] l && same_bytes (entries_in (index_of (replay l)) 0 (rows_in (index_of (replay l)))) ks
right (lists l f i ks) =
    sound_after no_counts [] l && (eqb (first_in (index_of (replay l)) f) i && same_bytes (list_in (index_of (replay l)) f) ks)
right (finds l f t k) = sound_after no_counts [] l && eqb (find_in (index_of (replay l)) f (padded 32 t)) k
right (changes l r ks) =
    sound_after no_counts [] (l ++ (r ∷ []))
    && same_bytes (entries_in (step_in (judge r (replay l)) r (replay l) (index_of (replay l))) 0 (length ks)) ks
right (lends n b) = same_flag (index_fits (replicate n 7)) b
right (lends_both n k b) = same_flag (both_fit (replicate n 7) (replicate k 7)) b
right (answers n k x y) =
    eqb (find_of (replicate n 0) root (replicate k 65)).number x && eqb (range_of (replicate n 0) root).number y
right (keeps n fit k m x) = is_kept (kept_from fit [] k (outcome n 0 [] [] 0) (9 ∷ [])) m x 0
right (keeps_row k x) = is_row_kept (row_kept_from true 4 (row_taken 0 0 k 8 [])) 0 x
right (starts u n x y) = is_kept (start_kept u (replicate 40960 7) (replicate 43032 7) (replicate 40964 7)) n x y
right (indexes_on p l ks) =
    sound_after no_counts [] (p ++ l)
    && same_bytes (entries_in (index_of (replay_from (trim (replay p)) l)) 0 (rows_in (index_of (replay_from (trim (replay p)) l)))) ks
right (writes l i b) = same_bytes (part (index_of (replay l)) i (length b)) b
right (ranges b f i n) = is_range (range_of b f) i n
right (counts b n) = eqb (rows_in b) n
right (looks_up b f t k) = eqb (find_of b f t).entry k
right (puts n m) = is_put (put_in (two n ++ replicate 40962 1) root (padded 32 A) 8) m
right (leaves n fit p x) =
    eqb (kept_from fit (7 ∷ []) 4 (outcome n 5 (9 ∷ []) [] 0) []).place p
    && begins (kept_from fit (7 ∷ []) 4 (outcome n 5 (9 ∷ []) [] 0) []).log x
right (renews_row n t fit k m x) = is_row_kept (row_kept_from fit k (row_taken n 0 t 8 (joined folders))) m x
right (freshens log k n x) = is_fresh (indexed_of log empty_base (replicate k 7) (replicate 86020 7)) n x
right (acts l w) =
    eqb (act_number 255 0 no_counts empty_tree l w) 0
    && same_rows (change_in (stamped 0 no_counts l w) (replay l) (index_of (replay l))) (index_of (replay (l ++ (stamped 0 no_counts l w ∷ []))))
right (acts_whole l w) =
    same_rows (act_kept 0 (log_bytes l) empty_base (index_of (replay l)) w (replicate 86020 7)).index
    (index_of (replay (l ++ (stamped 0 no_counts l w ∷ []))))

unfoldable pub all_right : List Example → Bool
all_right [] = true
all_right (r ∷ l) = right r && all_right l

-- ---- the table

-- an index of 1,024 rows: the first is of the root, the others are all alike, of the folder 1.257
unfoldable pub filled : List ℕ
filled = (0 ∷ 4 ∷ replicate 42 0) ++ replicate 40920 1

unfoldable pub table : List Example
table =
    -- 0.2 comes before 1.1, and 0.1 before 0.2, whatever the labels
    comes (0 · 2) B (1 · 1) A true
    ∷ comes (1 · 1) A (0 · 2) B false
    ∷ comes (0 · 1) B (0 · 2) A true
    -- in one folder by label: bytes are numbers, and a label comes before one that goes on
    ∷ comes (0 · 2) A (0 · 2) B true
    ∷ comes (0 · 2) (65 ∷ 66 ∷ []) (0 · 2) B true
    ∷ comes (0 · 2) B (0 · 2) (66 ∷ 66 ∷ []) true
    ∷ comes (0 · 2) (66 ∷ 66 ∷ []) (0 · 2) B false
    ∷ comes (0 · 2) (66 ∷ 0 ∷ []) (0 · 2) (66 ∷ 32 ∷ []) true
    ∷ comes (0 · 2) (66 ∷ 32 ∷ []) (0 · 2) (66 ∷ 0 ∷ []) false
    ∷ comes (0 · 2) A (0 · 2) A false
    ∷ comes (0 · 2) (replicate 31 65 ++ A) (0 · 2) (replicate 31 65 ++ B) true
    -- six rows, zeros, and the first: the root, "A"
    ∷ writes (folders ++ traces) 0 (6 ∷ 0 ∷ 0 ∷ 0 ∷ 0 ∷ 0 ∷ 0 ∷ 0 ∷ 65 ∷ 0 ∷ [])
    ∷ writes (folders ++ traces) 40 (1 ∷ 0 ∷ 1 ∷ 0 ∷ 0 ∷ 0 ∷ 0 ∷ 0 ∷ 66 ∷ 0 ∷ [])
    -- capitals as small letters: a before Z, neither of A and a before the other, and the signs between Z and a before all letters
    ∷ comes (0 · 2) (97 ∷ []) (0 · 2) (90 ∷ []) true
    ∷ comes (0 · 2) (90 ∷ []) (0 · 2) (97 ∷ []) false
    ∷ comes (0 · 2) A (0 · 2) (97 ∷ []) false
    ∷ comes (0 · 2) (97 ∷ []) (0 · 2) A false
    ∷ comes (0 · 2) (95 ∷ []) (0 · 2) A true
    ∷ comes (0 · 2) (90 ∷ []) (0 · 2) (95 ∷ []) false
    ∷ comes (0 · 2) (91 ∷ []) (0 · 2) (123 ∷ []) true
    -- the rows of an index: the root, 0.2, 1.1
    ∷ indexes [] []
    ∷ indexes (folders ++ traces) (1 · 1 ∷ 0 · 2 ∷ 0 · 1 ∷ 0 · 5 ∷ 0 · 4 ∷ 0 · 3 ∷ [])
    -- one that was removed is not listed; one that was renamed stands by its new label
    ∷ indexes (folders ++ (removes 4 (0 · 3) (2 ∷ 1 ∷ []) (0 · 1) ∷ [])) (1 · 1 ∷ 0 · 2 ∷ [])
    ∷ indexes (folders ++ (renames 4 (0 · 3) (2 ∷ 1 ∷ []) (1 · 1) (68 ∷ []) ∷ [])) (0 · 2 ∷ 0 · 1 ∷ 1 · 1 ∷ [])
    -- in label order whatever the case: the line, then a, B and c
    ∷ indexes
    (makes_trace 3 (0 · 1) [] root (99 ∷ [])
    ∷ makes_trace 3 (0 · 2) (1 ∷ []) root B
    ∷ makes_trace 3 (0 · 3) (2 ∷ []) root (97 ∷ [])
    ∷ makes_trace 3 (0 · 4) (3 ∷ []) root (95 ∷ [])
    ∷ [])
    (0 · 4 ∷ 0 · 3 ∷ 0 · 2 ∷ 0 · 1 ∷ [])
    -- entries of the base and of the log together; one of the base that the log removes
    ∷ indexes_on folders traces (1 · 1 ∷ 0 · 2 ∷ 0 · 1 ∷ 0 · 5 ∷ 0 · 4 ∷ 0 · 3 ∷ [])
    ∷ indexes_on folders (removes 4 (0 · 3) (2 ∷ 1 ∷ []) (0 · 1) ∷ []) (1 · 1 ∷ 0 · 2 ∷ [])
    -- the root, a folder between others, the last, one without entries, a trace, an entry that is not there
    ∷ lists (folders ++ traces) root 0 (1 · 1 ∷ 0 · 2 ∷ 0 · 1 ∷ [])
    ∷ lists (folders ++ traces) (0 · 2) 3 (0 · 5 ∷ 0 · 4 ∷ [])
    ∷ lists (folders ++ traces) (1 · 1) 5 (0 · 3 ∷ [])
    ∷ lists (folders ++ traces) (0 · 1) 3 []
    ∷ lists (folders ++ traces) (0 · 5) 5 []
    ∷ lists (folders ++ traces) (7 · 9) 6 []
    -- a label that the folder has, a front of one, one of another folder, none at all
    ∷ finds (folders ++ traces) (0 · 2) (66 ∷ 66 ∷ []) (0 · 4)
    ∷ finds (folders ++ traces) (0 · 2) B (0 · 5)
    ∷ finds (folders ++ traces) root B (0 · 2)
    ∷ finds (folders ++ traces) (0 · 2) (98 ∷ 66 ∷ []) (0 · 4)
    ∷ finds (folders ++ traces) root (98 ∷ []) (0 · 2)
    ∷ finds (folders ++ traces) (0 · 2) A 0
    ∷ finds (folders ++ traces) (0 · 1) B 0
    ∷ finds (folders ++ traces) (0 · 2) [] 0
    ∷ finds (folders ++ traces) (1 · 1) A (0 · 3)
    ∷ lists (makes_trace 3 (0 · 1) [] root (replicate 32 126) ∷ []) root 0 (0 · 1 ∷ [])
    -- any bytes: eleven halvings, at most 1,024 rows
    ∷ ranges filled root 0 1
    ∷ counts (255 ∷ 255 ∷ []) 1024
    ∷ counts (255 ∷ 3 ∷ []) 1023
    ∷ looks_up filled (1 · 257) (replicate 32 1) (1 · 257)
    ∷ looks_up ((1 ∷ 0 ∷ []) ++ drop 2 filled) (1 · 257) (replicate 32 1) 0
    ∷ puts 1023 1024
    ∷ puts 1024 1024
    -- a make, a remove, a rename, a store, and one that stands aside
    ∷ changes (folders ++ traces) (makes_trace 5 (0 · 6) (5 ∷ 1 ∷ []) (0 · 1) A) (1 · 1 ∷ 0 · 2 ∷ 0 · 1 ∷ 0 · 6 ∷ 0 · 5 ∷ 0 · 4 ∷ 0 · 3 ∷ 0 ∷ [])
    ∷ changes (folders ++ traces) (removes 5 (0 · 6) (5 ∷ 1 ∷ []) (0 · 5)) (1 · 1 ∷ 0 · 2 ∷ 0 · 1 ∷ 0 · 4 ∷ 0 · 3 ∷ 0 ∷ [])
    ∷ changes (folders ++ traces) (renames 5 (0 · 6) (5 ∷ 1 ∷ []) (0 · 5) C) (1 · 1 ∷ 0 · 2 ∷ 0 · 1 ∷ 0 · 4 ∷ 0 · 5 ∷ 0 · 3 ∷ 0 ∷ [])
    ∷ changes (folders ++ traces) (stores 5 (0 · 6) (5 ∷ 1 ∷ []) (0 · 5)) (1 · 1 ∷ 0 · 2 ∷ 0 · 1 ∷ 0 · 5 ∷ 0 · 4 ∷ 0 · 3 ∷ 0 ∷ [])
    ∷ changes (folders ++ traces) (makes_trace 5 (0 · 6) (5 ∷ 1 ∷ []) (0 · 2) B) (1 · 1 ∷ 0 · 2 ∷ 0 · 1 ∷ 0 · 5 ∷ 0 · 4 ∷ 0 · 3 ∷ 0 ∷ [])
    ∷ changes (folders ++ traces) (makes_folder 5 (0 · 6) (5 ∷ 1 ∷ []) (0 · 1) A) (1 · 1 ∷ 0 · 2 ∷ 0 · 1 ∷ 0 · 6 ∷ 0 · 5 ∷ 0 · 4 ∷ 0 · 3 ∷ 0 ∷ [])
    ∷ acts_whole folders (makes_trace 5 (0 · 0) [] (0 · 1) A)
    ∷ acts (folders ++ traces) (makes_trace 5 (0 · 0) [] (0 · 1) A)
    ∷ acts (folders ++ traces) (renames 5 (0 · 0) [] (0 · 5) C)
    ∷ acts (folders ++ traces) (renames 5 (0 · 0) [] (0 · 5) (98 ∷ []))
    -- a rename to the own label in another case leaves the order
    ∷ changes (folders ++ traces) (renames 5 (0 · 6) (5 ∷ 1 ∷ []) (0 · 5) (98 ∷ [])) (1 · 1 ∷ 0 · 2 ∷ 0 · 1 ∷ 0 · 5 ∷ 0 · 4 ∷ 0 · 3 ∷ 0 ∷ [])
    -- a move to another folder, and within its own
    ∷ changes (folders ++ traces) (moves 5 (0 · 6) (5 ∷ 1 ∷ []) (0 · 5) (1 · 1) C) (1 · 1 ∷ 0 · 2 ∷ 0 · 1 ∷ 0 · 4 ∷ 0 · 3 ∷ 0 · 5 ∷ 0 ∷ [])
    ∷ changes (folders ++ traces) (moves 5 (0 · 6) (5 ∷ 1 ∷ []) (0 · 5) (0 · 2) C) (1 · 1 ∷ 0 · 2 ∷ 0 · 1 ∷ 0 · 4 ∷ 0 · 5 ∷ 0 · 3 ∷ 0 ∷ [])
    -- a folder with entries, to the root, and one that stands aside
    ∷ changes (folders ++ traces) (moves 5 (0 · 6) (5 ∷ 1 ∷ []) (0 · 2) (1 · 1) B) (1 · 1 ∷ 0 · 1 ∷ 0 · 5 ∷ 0 · 4 ∷ 0 · 3 ∷ 0 · 2 ∷ 0 ∷ [])
    ∷ changes (folders ++ traces) (moves 5 (0 · 6) (5 ∷ 1 ∷ []) (0 · 3) root (68 ∷ [])) (1 · 1 ∷ 0 · 2 ∷ 0 · 1 ∷ 0 · 3 ∷ 0 · 5 ∷ 0 · 4 ∷ 0 ∷ [])
    ∷ changes (folders ++ traces) (moves 5 (0 · 6) (5 ∷ 1 ∷ []) (0 · 5) (1 · 1) A) (1 · 1 ∷ 0 · 2 ∷ 0 · 1 ∷ 0 · 5 ∷ 0 · 4 ∷ 0 · 3 ∷ 0 ∷ [])
    -- acts: to another folder; the own label in another case; a folder with entries; to the root
    ∷ acts (folders ++ traces) (moves 5 (0 · 0) [] (0 · 5) (1 · 1) C)
    ∷ acts (folders ++ traces) (moves 5 (0 · 0) [] (0 · 5) (0 · 2) (98 ∷ []))
    ∷ acts (folders ++ traces) (moves 5 (0 · 0) [] (0 · 2) (1 · 1) B)
    ∷ acts (folders ++ traces) (moves 5 (0 · 0) [] (0 · 3) root (68 ∷ []))
    ∷ []

-- the lengths of what is lent, and what the calls leave
unfoldable pub calls : List Example
calls =
    lends 0 true
    ∷ lends 40964 true
    ∷ lends 1 false
    ∷ lends 40963 false
    ∷ lends 40965 false
    -- a take is lent both or neither
    ∷ lends_both 0 0 true
    ∷ lends_both 40964 86020 true
    ∷ lends_both 40964 0 false
    ∷ lends_both 0 86020 false
    ∷ lends_both 40964 86019 false
    ∷ answers 40964 32 0 0
    ∷ answers 40964 31 1 0
    ∷ answers 0 32 1 1
    ∷ answers 40963 32 1 1
    ∷ answers 40964 33 1 0
    ∷ answers 40965 32 1 1
    ∷ freshens (log_bytes folders) 40964 0 3
    ∷ freshens (log_bytes folders) 40963 1 7
    ∷ freshens (replicate 40960 7) 40964 19 7
    -- accepted, with an index and without; refused; an index of another length, before 21
    ∷ keeps 0 true 4 0 9
    ∷ keeps 0 true 0 0 0
    ∷ keeps 7 true 4 7 7
    ∷ keeps 7 true 0 7 0
    ∷ keeps 21 false 4 1 7
    ∷ keeps 0 false 4 1 7
    ∷ leaves 0 true 5 9
    ∷ leaves 0 false 0 7
    -- a row of which nothing was taken leaves the index; one that was stopped after two blocks does not
    ∷ keeps_row 0 7
    ∷ keeps_row 2 0
    ∷ renews_row 0 1 true 4 0 3
    ∷ renews_row 0 1 true 0 0 0
    ∷ renews_row 21 0 false 4 1 7
    ∷ renews_row 21 0 true 4 21 7
    ∷ starts 0 0 0 255
    ∷ starts 8 21 7 7
    ∷ []
