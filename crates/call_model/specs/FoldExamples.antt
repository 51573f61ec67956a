-- Examples of folding, and of the calls over a base, as rows of two tables.
-- Document 02, K10.
-- Assumes nothing.
use Rattle.std.specs.Prelude.{ℕ, Bool, true, false, ◌&&◌, List, [], ◌∷◌, ◌++◌, eqb, get_or, take, drop, replicate}
use Rattle.model.specs.Bytes.{word, same_bytes, padded, joined}
use Rattle.model.specs.Vector.{vector_bytes}
use Rattle.model.specs.Record.{Rec, root}
use Rattle.model.specs.Log.{vector_of, no_counts, sound_after, records_of}
use Rattle.model.specs.Replay.{Entry, Aside, Tree, empty_tree, trim, replay_from, replay}
use Rattle.model.specs.Examples.{◌·◌, Standing, makes_folder, makes_trace, stores, removes, renames, settles, same_flag, same_records, shows_asides, A, B, C}
use Rattle.model.specs.Block.{block_of, vector_in}
use Rattle.model.specs.File.{header_of}
use Rattle.base_model.specs.Base.{empty_base, base_bytes, base_in}
use Rattle.base_model.specs.Examples.{base_after}
use Rattle.call_model.specs.Outcome.{Outcome, Took, refused, taken, take_one, act_number, act_of, act_work, work_after, asked_number, whole_number, room_number, start_of, handed, written, acted, took_block}
use Rattle.call_model.specs.Fold.{heard_by, longest, run_of, list_fits, folded, fold_by, fold_of, fold_work}

-- ---- the rows

pub data FoldRow : Type 0 where
  -- a list, a unit, a held vector, and whether the unit may give the list
  gives : ℕ → ℕ → List ℕ → Bool → FoldRow
  -- the own unit, a base vector, the records of a log, a unit, and what that unit has heard
  hears : ℕ → List ℕ → List Rec → ℕ → List ℕ → FoldRow
  -- a list, a unit, the records of its log; how many fold, the entries of the base, and the asides of the whole then
  folds : ℕ → ℕ → List Rec → ℕ → List ℕ → List Standing → FoldRow
  -- a list, a unit, the records folded, those of its log, and how many more fold
  folds_on : ℕ → ℕ → List Rec → List Rec → ℕ → FoldRow
  -- how many entries and asides a base has, the records of a log, how many of them are heard by all, and how many fold
  runs : ℕ → ℕ → List Rec → ℕ → ℕ → FoldRow
  -- a list, the records folded, those of a log, how many more fold; the vector and the entries of the base that is left, and its asides
  leaves : ℕ → List Rec → List Rec → ℕ → List ℕ → List ℕ → List Standing → FoldRow
  -- a list, the records folded, those of the log, a record, and the number that a take of it answers
  takes : ℕ → List Rec → List Rec → Rec → ℕ → FoldRow
  -- the records folded, those of the log, how many more of the first the log is to hold, a record, and the number
  fills : List Rec → List Rec → ℕ → Rec → ℕ → FoldRow
  -- a list, the own unit, a base vector, the records folded, those of the log, a wish, and the number that the act answers
  wishes : ℕ → ℕ → List ℕ → List Rec → List Rec → List ℕ → ℕ → FoldRow
  -- the vector asked of a hand_out, a base vector, and the number
  asks : List ℕ → List ℕ → ℕ → FoldRow
  -- a base vector, and the number that the writing of a file answers
  whole : List ℕ → ℕ → FoldRow
  -- a list, the own unit, the records of a log, a base; the number that folding answers behind the guard, and how many it folds
  folds_by : ℕ → ℕ → List Rec → List ℕ → ℕ → ℕ → FoldRow
  -- a base, the records of a log, the vector asked of a hand_out; the number that it answers behind the guard, and the vector in the header
  hands_out : List ℕ → List Rec → List ℕ → ℕ → List ℕ → FoldRow
  -- a base, the records of a block, and the number that the taking of it answers behind the guard
  tooks_in : List ℕ → List Rec → ℕ → FoldRow
  -- the own unit's base vector, a wish, and the number in the record that an act leaves
  stamps : List ℕ → List ℕ → ℕ → FoldRow
  -- a base, and the number that the writing of a file answers behind the guard
  writes_out : List ℕ → ℕ → FoldRow
  -- the number before a replay, and the first byte of a work memory of sevens then
  works : ℕ → ℕ → FoldRow
  -- the own unit, a base, how many bytes of work memory; the number of a fold by the list 0, and the first of these bytes, all sevens, then
  folds_at : ℕ → List ℕ → ℕ → ℕ → ℕ → FoldRow
  -- a base, a wish of unit 0; the number, and the first byte of the work memory then
  acts_at : List ℕ → List ℕ → ℕ → ℕ → FoldRow
  -- how many bytes the base has, the own unit of a start; the number, and the first byte of the base, all nines, then
  starts_at : ℕ → ℕ → ℕ → ℕ → FoldRow
  -- how many records unit 0 has folded, how many the log has, and the number that an act of unit 0 is refused with for want of room
  rooms : ℕ → ℕ → ℕ → FoldRow

unfoldable pub makers_of : List Entry → List ℕ
makers_of [] = []
makers_of (e ∷ l) = e.made ∷ makers_of l

unfoldable pub answer_of : Took → ℕ
answer_of (refused n) = n
answer_of (taken l) = 0

-- the log is sound on the base, more do not fold by the same list, and these asides stand then
unfoldable pub goes_on : ℕ → ℕ → List ℕ → Tree → List Rec → List Standing → Bool
goes_on m u v t l ss = sound_after v [] l && (eqb (run_of m u v t l) 0 && shows_asides (replay_from t l).asides ss)

-- n entries "C" and m asides, all alike
unfoldable pub alike : ℕ → ℕ → Tree
alike n m =
    record {
      entries = replicate n (record { made = 7 · 9; kind = 1; inside = root; label = padded 32 C; contents = 7 · 9; date = []; mark = []; placing = 7 · 9 });
      asides = replicate m (record { who = 7 · 8; reason = 12; marked = 0; is_open = true });
    }

unfoldable pub leaves_this : Outcome → ℕ → List Rec → ℕ → List ℕ → List ℕ → List Standing → Bool
leaves_this o m l n v ks ss =
    eqb o.blocks n
    && (same_records (records_of o.log) (drop n l)
    && (eqb (base_in o.lent).list m
    && (same_bytes (base_in o.lent).vector v
    && (same_bytes (makers_of (base_in o.lent).tree.entries) ks && shows_asides (base_in o.lent).tree.asides ss))))

-- the first 24 bytes of a base without entries and asides
unfoldable pub head_of : ℕ → List ℕ → List ℕ
head_of m v = (m ∷ replicate 7 0) ++ vector_bytes v

unfoldable pub right : FoldRow → Bool
right (gives m u v b) = same_flag (list_fits m u v) b
right (hears u v l w h) = same_bytes (heard_by u v l w) h
right (folds m u l n ks ss) =
    sound_after no_counts [] l
    && (list_fits m u (vector_of l)
    && (eqb (run_of m u no_counts empty_tree l) n
    && (same_bytes (makers_of (trim (replay (take n l))).entries) ks
    && goes_on m u (vector_of (take n l)) (trim (replay (take n l))) (drop n l) ss)))
right (folds_on m u p l n) =
    sound_after no_counts [] (p ++ l) && (list_fits m u (vector_of (p ++ l)) && eqb (run_of m u (vector_of p) (trim (replay p)) l) n)
right (runs n m l h k) = eqb (longest (alike n m) l h) k
right (leaves m p l n v ks ss) =
    sound_after no_counts [] (p ++ l) && leaves_this (folded m (joined l) (base_bytes (base_after 255 p)) n) m l n v ks ss
right (takes m p l r n) = sound_after no_counts [] (p ++ l) && eqb (answer_of (take_one m (vector_of p) l r)) n
right (fills p l k r n) = eqb (answer_of (take_one 255 (vector_of p) (l ++ replicate k (makes_trace 1 (7 · 7) [] root A)) r)) n
right (wishes m u v p l w n) = eqb (act_number m u v (trim (replay p)) l w) n
right (asks a v n) = eqb (asked_number a v) n
right (rooms c k n) = eqb (room_number 0 (c ∷ replicate 7 0) (replicate k (makes_trace 1 (1 · 1) [] root A))) n
right (whole v n) = eqb (whole_number v) n
right (folds_by m u l base n k) = eqb (fold_by m u (joined l) base).number n && eqb (fold_by m u (joined l) base).blocks k
right (hands_out base l v n h) =
    eqb (handed 7 0 (joined l) base v []).number n && same_bytes (vector_in (handed 7 0 (joined l) base v []).lent) h
right (tooks_in base rs n) = eqb (took_block [] base (block_of (header_of 7 0 0 no_counts) rs) 0).number n
right (stamps v w n) = eqb (word (acted 0 [] v w 0).log 2) n
right (writes_out base n) = eqb (written 7 0 [] base []).number n
right (works n y) = eqb (get_or (work_after n empty_tree (replicate 9 7)) 0 0) y
right (folds_at u base k n y) =
    eqb (fold_of u (replicate 40960 0) base 0 (replicate k 7)).number n
    && eqb (get_or (fold_work u (replicate 40960 0) base 0 (replicate k 7)) 0 0) y
right (acts_at base w n y) =
    eqb (act_of 0 (replicate 40960 0) base w (replicate 86020 7)).number n
    && eqb (get_or (act_work 0 (replicate 40960 0) base w (replicate 86020 7)) 0 0) y
right (starts_at k u n y) =
    eqb (start_of u (replicate 40960 9) (replicate k 9)).number n
    && eqb (get_or (start_of u (replicate 40960 9) (replicate k 9)).lent 0 0) y

unfoldable pub all_right : List FoldRow → Bool
all_right [] = true
all_right (r ∷ l) = right r && all_right l

-- ---- the table

-- 0.1 and 2.1 have seen nothing, 1.1 has seen 2.1, 2.2 has seen 0.1 and 2.1, 1.2 has seen 0.1, 1.1 and 2.1
unfoldable pub five : List Rec
five =
    makes_trace 1 (0 · 1) [] root A
    ∷ makes_trace 1 (2 · 1) [] root B
    ∷ makes_trace 1 (1 · 1) (0 ∷ 0 ∷ 1 ∷ []) root C
    ∷ makes_trace 1 (2 · 2) (1 ∷ 0 ∷ 1 ∷ []) root (68 ∷ [])
    ∷ makes_trace 1 (1 · 2) (1 ∷ 1 ∷ 1 ∷ []) root (69 ∷ [])
    ∷ []

-- a folder "A", a trace "B" in it, and "C" beside it
unfoldable pub house : List Rec
house =
    makes_folder 1 (0 · 1) [] root A ∷ makes_trace 1 (0 · 2) (1 ∷ []) (0 · 1) B ∷ makes_trace 1 (0 · 3) (2 ∷ []) root C ∷ []

unfoldable pub fold_table : List FoldRow
fold_table =
    -- the own unit, and each unit with a record
    gives 7 0 (1 ∷ 0 ∷ 1 ∷ []) true
    ∷ gives 5 0 (1 ∷ 0 ∷ 1 ∷ []) true
    ∷ gives 6 0 (0 ∷ 0 ∷ 1 ∷ []) false
    ∷ gives 3 0 (1 ∷ 0 ∷ 1 ∷ []) false
    ∷ gives 255 7 no_counts true
    -- the own unit all that it holds; another its last record and what that has seen; one with no record in the log the base vector
    ∷ hears 0 no_counts five 0 (1 ∷ 2 ∷ 2 ∷ replicate 5 0)
    ∷ hears 0 no_counts five 1 (1 ∷ 2 ∷ 1 ∷ replicate 5 0)
    ∷ hears 0 no_counts five 2 (1 ∷ 0 ∷ 2 ∷ replicate 5 0)
    ∷ hears 0 no_counts five 3 no_counts
    ∷ hears 3 no_counts five 0 (1 ∷ replicate 7 0)
    ∷ hears 0 (1 ∷ 0 ∷ 1 ∷ replicate 5 0) (take 1 (drop 2 five)) 2 (1 ∷ 0 ∷ 1 ∷ replicate 5 0)
    ∷ hears 0 (1 ∷ 0 ∷ 1 ∷ replicate 5 0) (take 1 (drop 2 five)) 1 (0 ∷ 1 ∷ 1 ∷ replicate 5 0)
    -- unit 2 has not heard of 1.1, which stays, and has not seen all that is folded
    ∷ folds 7 0 five 2 (0 · 1 ∷ 2 · 1 ∷ []) []
    -- a listed unit that never acted has heard of nothing
    ∷ folds 15 0 five 0 [] []
    ∷ folds 255 0 five 0 [] []
    -- unit 7, listed, has heard of nothing
    ∷ folds 129 0 (makes_trace 1 (0 · 1) [] root A ∷ []) 0 [] []
    -- the last record of a unit counts as heard by it, and the own unit has heard of all that it holds
    ∷ folds 3 0 (makes_trace 1 (1 · 1) [] root A ∷ []) 1 (1 · 1 ∷ []) []
    ∷ folds 3 0 (makes_trace 1 (0 · 1) [] root A ∷ makes_trace 1 (1 · 1) (1 ∷ []) root B ∷ []) 2 (0 · 1 ∷ 1 · 1 ∷ []) []
    -- all have heard of 2.1, but not of 1.1, which ranks before it
    ∷ folds 7 0
    (makes_trace 1 (1 · 1) [] root A ∷ makes_trace 1 (2 · 1) [] root B ∷ makes_trace 1 (1 · 2) (0 ∷ 1 ∷ 1 ∷ []) root C ∷ [])
    0
    []
    []
    -- 1.1, a store that is left, has not seen the store 0.2, which is folded
    ∷ folds 7 0
    (makes_trace 1 (0 · 1) [] root A
    ∷ stores 1 (0 · 2) (1 ∷ []) (0 · 1)
    ∷ stores 1 (1 · 1) (1 ∷ []) (0 · 1)
    ∷ makes_trace 1 (2 · 1) (2 ∷ []) root B
    ∷ makes_trace 1 (1 · 2) (2 ∷ 1 ∷ []) root C
    ∷ [])
    2
    (0 · 1 ∷ [])
    ((1 · 1, 17, 0 · 1, true) ∷ [])
    -- a removed entry leaves the base, an aside does not
    ∷ folds 1 0
    (makes_folder 1 (0 · 1) [] root A
    ∷ makes_trace 1 (0 · 2) (1 ∷ []) (0 · 1) A
    ∷ removes 1 (0 · 3) (2 ∷ []) (0 · 1)
    ∷ removes 1 (0 · 4) (3 ∷ []) (0 · 2)
    ∷ removes 1 (0 · 5) (4 ∷ []) (0 · 1)
    ∷ makes_trace 1 (0 · 6) (5 ∷ []) root (97 ∷ [])
    ∷ [])
    6
    (0 · 6 ∷ [])
    ((0 · 3, 16, 0 · 1, true) ∷ [])
    -- an aside of the base is settled by a record of the log
    ∷ folds 3 0
    (makes_trace 1 (0 · 1) [] root A ∷ makes_trace 1 (1 · 1) [] root A ∷ makes_trace 1 (1 · 2) (1 ∷ 1 ∷ []) root B ∷ settles 1 (0 · 2) (1 ∷ 2 ∷ []) (1 · 1) ∷ [])
    3
    (0 · 1 ∷ 1 · 2 ∷ [])
    ((1 · 1, 15, 0 · 1, false) ∷ [])
    -- on a base: unit 2, whose records are all folded, has heard no more than the base; then it speaks
    ∷ folds_on 7 0 (take 2 five) (take 1 (drop 2 five)) 0
    ∷ folds_on 7 0 (take 2 five)
    (makes_trace 1 (1 · 1) (0 ∷ 0 ∷ 1 ∷ []) root C ∷ makes_trace 1 (2 · 2) (1 ∷ 1 ∷ 1 ∷ []) root (68 ∷ []) ∷ [])
    1
    -- a base with 511 entries: 513 in between do not count, 512 after a remove do
    ∷ runs 511 0 (makes_trace 1 (0 · 1) [] root A ∷ makes_trace 1 (0 · 2) (1 ∷ []) root B ∷ removes 1 (0 · 3) (2 ∷ []) (0 · 2) ∷ []) 3 3
    ∷ runs 511 0 (makes_trace 1 (0 · 1) [] root A ∷ makes_trace 1 (0 · 2) (1 ∷ []) root B ∷ removes 1 (0 · 3) (2 ∷ []) (0 · 2) ∷ []) 2 1
    ∷ runs 512 0 (makes_trace 1 (0 · 1) [] root A ∷ []) 1 0
    -- asides never go; the 513th does not count
    ∷ runs 0 512 (makes_trace 1 (0 · 1) [] root A ∷ makes_trace 1 (1 · 1) [] root A ∷ []) 2 1
    ∷ runs 0 511 (makes_trace 1 (0 · 1) [] root A ∷ makes_trace 1 (1 · 1) [] root A ∷ []) 2 2
    -- the list given is kept, also by a fold of nothing; entries, asides and vector go on from those of the base
    ∷ leaves 7 [] five 2 (1 ∷ 0 ∷ 1 ∷ replicate 5 0) (0 · 1 ∷ 2 · 1 ∷ []) []
    ∷ leaves 15 [] five 0 no_counts [] []
    ∷ leaves 3 (take 1 house)
    (makes_trace 1 (0 · 2) (1 ∷ []) (0 · 1) B ∷ makes_trace 1 (1 · 1) (1 ∷ []) (0 · 1) B ∷ removes 1 (1 · 2) (2 ∷ 1 ∷ []) (0 · 2) ∷ [])
    3
    (2 ∷ 2 ∷ replicate 6 0)
    (0 · 1 ∷ [])
    ((1 · 1, 15, 0 · 2, true) ∷ [])
    -- a folded record with another label is passed over, if it is well formed and its unit listed
    ∷ takes 7 (take 2 five) (take 1 (drop 2 five)) (makes_trace 1 (0 · 1) [] root C) 0
    ∷ takes 7 (take 2 five) (take 1 (drop 2 five)) (makes_trace 32 (0 · 1) [] root C) 7
    ∷ takes 6 (take 2 five) (take 1 (drop 2 five)) (makes_trace 1 (0 · 1) [] root C) 26
    -- a held one with another label is not
    ∷ takes 7 (take 2 five) (take 1 (drop 2 five)) (makes_trace 1 (1 · 1) (0 ∷ 0 ∷ 1 ∷ []) root A) 10
    -- a held one that has not seen what is folded stays
    ∷ takes 7 (take 2 five) (take 1 (drop 2 five)) (makes_trace 1 (1 · 1) (0 ∷ 0 ∷ 1 ∷ []) root C) 0
    -- a new one that has seen what is folded, and one that has not seen 0.1
    ∷ takes 7 (take 2 five) (take 1 (drop 2 five)) (makes_trace 1 (1 · 2) (1 ∷ 1 ∷ 1 ∷ []) root A) 0
    ∷ takes 7 (take 2 five) (take 1 (drop 2 five)) (makes_trace 1 (1 · 2) (0 ∷ 1 ∷ 1 ∷ []) root A) 27
    -- one of a unit not listed, also if malformed; one that is not the next, nor has seen 0.1
    ∷ takes 7 (take 2 five) (take 1 (drop 2 five)) (makes_trace 1 (3 · 1) (1 ∷ 1 ∷ 1 ∷ []) root A) 26
    ∷ takes 7 (take 2 five) (take 1 (drop 2 five)) (makes_trace 32 (3 · 1) (1 ∷ 1 ∷ 1 ∷ []) root A) 7
    ∷ takes 7 (take 2 five) (take 1 (drop 2 five)) (makes_trace 1 (1 · 3) (0 ∷ 2 ∷ 1 ∷ []) root A) 8
    -- 27 comes before 9: it has seen 2.2, which has seen 0.1
    ∷ takes 7 (take 2 five) (take 2 (drop 2 five)) (makes_trace 1 (1 · 2) (0 ∷ 1 ∷ 2 ∷ []) root A) 27
    -- it has seen 2.2, which has seen 1.1, and not 1.1; then with 1.1. What 2.1 has seen is not asked
    ∷ takes 7 (take 2 five)
    (makes_trace 1 (1 · 1) (1 ∷ 0 ∷ 1 ∷ []) root C ∷ makes_trace 1 (2 · 2) (1 ∷ 1 ∷ 1 ∷ []) root (68 ∷ []) ∷ [])
    (makes_trace 1 (0 · 2) (1 ∷ 0 ∷ 2 ∷ []) root A)
    9
    ∷ takes 7 (take 2 five)
    (makes_trace 1 (1 · 1) (1 ∷ 0 ∷ 1 ∷ []) root C ∷ makes_trace 1 (2 · 2) (1 ∷ 1 ∷ 1 ∷ []) root (68 ∷ []) ∷ [])
    (makes_trace 1 (0 · 2) (1 ∷ 1 ∷ 2 ∷ []) root A)
    0
    -- folded records need no room: 511 in the log beside them, then 512; one passed over needs none either
    ∷ fills (take 2 five) (take 1 (drop 2 five)) 510 (makes_trace 1 (1 · 2) (1 ∷ 1 ∷ 1 ∷ []) root A) 0
    ∷ fills (take 2 five) (take 1 (drop 2 five)) 511 (makes_trace 1 (1 · 2) (1 ∷ 1 ∷ 1 ∷ []) root A) 11
    ∷ fills (take 2 five) (take 1 (drop 2 five)) 511 (makes_trace 1 (0 · 1) [] root C) 0
    -- an act goes on from the base: number, seen and tree
    ∷ wishes 255 0 (3 ∷ replicate 7 0) house [] (removes 3 (0 · 0) [] (0 · 1)) 16
    ∷ wishes 255 0 (3 ∷ replicate 7 0) house [] (makes_trace 3 (0 · 0) [] (0 · 1) (98 ∷ [])) 15
    ∷ wishes 255 1 (3 ∷ replicate 7 0) house [] (renames 3 (1 · 0) [] (0 · 2) A) 0
    ∷ wishes 255 0 (3 ∷ replicate 7 0) house (makes_trace 3 (0 · 4) (3 ∷ []) (0 · 2) A ∷ []) (removes 3 (0 · 0) [] (0 · 4)) 12
    ∷ wishes 255 0 (3 ∷ replicate 7 0) house [] (removes 3 (0 · 0) [] (0 · 4)) 7
    -- an unlisted own unit, before 7
    ∷ wishes 254 0 no_counts [] [] (makes_trace 3 (0 · 0) [] root A) 26
    ∷ wishes 254 0 no_counts [] [] (makes_trace 32 (1 · 0) [] root (47 ∷ [])) 26
    ∷ wishes 1 0 no_counts [] [] (makes_trace 3 (0 · 0) [] root A) 0
    -- the last number is 65,535: behind 7 and 24, before 11. What the wish names is judged with 65,536 as its number
    ∷ wishes 255 0 (65534 ∷ replicate 7 0) [] [] (makes_trace 3 (0 · 0) [] root A) 0
    ∷ wishes 255 0 (65535 ∷ replicate 7 0) [] [] (makes_trace 3 (0 · 0) [] root A) 28
    ∷ wishes 255 0 (65535 ∷ replicate 7 0) [] [] (removes 3 (0 · 0) [] (0 · 65535)) 28
    ∷ wishes 255 0 (65535 ∷ replicate 7 0) [] [] (makes_trace 32 (0 · 0) [] root A) 7
    ∷ wishes 255 0 (65535 ∷ replicate 7 0) [] [] (makes_trace 3 (0 · 0) [] root (47 ∷ [])) 24
    ∷ wishes 255 0 (65535 ∷ replicate 7 0) [] (replicate 512 (makes_trace 3 (1 · 1) [] root A)) (makes_trace 3 (0 · 0) [] root B) 28
    ∷ wishes 255 1 (65535 ∷ replicate 7 0) [] [] (makes_trace 3 (1 · 0) [] root A) 0
    -- a store and an aside that are folded stay what they were
    ∷ leaves 7 (makes_trace 1 (0 · 1) [] root A ∷ stores 1 (0 · 2) (1 ∷ []) (0 · 1) ∷ []) (renames 1 (1 · 1) (1 ∷ []) (0 · 1) B ∷ []) 1 (2 ∷ 1 ∷ replicate 6 0) (0 · 1 ∷ []) []
    ∷ leaves 7 (makes_trace 1 (0 · 1) [] root A ∷ makes_trace 1 (1 · 1) [] root A ∷ settles 1 (0 · 2) (1 ∷ 1 ∷ []) (1 · 1) ∷ []) []
    0
    (2 ∷ 1 ∷ replicate 6 0)
    (0 · 1 ∷ [])
    ((1 · 1, 15, 0 · 1, false) ∷ [])
    -- 8, 27 and 9 come before 11; what is folded of another unit than 0 counts too
    ∷ fills (take 2 five) (makes_trace 1 (1 · 1) (1 ∷ 0 ∷ 1 ∷ []) root C ∷ makes_trace 1 (2 · 2) (1 ∷ 1 ∷ 1 ∷ []) root (68 ∷ []) ∷ []) 510 (makes_trace 1 (0 · 2) (1 ∷ 0 ∷ 2 ∷ []) root A) 9
    ∷ fills (take 2 five) (take 1 (drop 2 five)) 511 (makes_trace 1 (1 · 2) (0 ∷ 1 ∷ 1 ∷ []) root A) 27
    ∷ fills (take 2 five) (take 1 (drop 2 five)) 511 (makes_trace 1 (1 · 3) (1 ∷ 2 ∷ 1 ∷ []) root A) 8
    ∷ takes 7 (take 2 five) (take 1 (drop 2 five)) (makes_trace 1 (0 · 2) (1 ∷ 1 ∷ []) root A) 27
    -- records of the log count for 28; 511 of them leave room, 512 do not
    ∷ wishes 255 0 (65534 ∷ replicate 7 0) [] (makes_trace 3 (0 · 65535) (65534 ∷ []) root B ∷ []) (makes_trace 3 (0 · 0) [] root A) 28
    ∷ rooms 0 511 0
    ∷ rooms 0 512 11
    ∷ rooms 65534 512 11
    ∷ rooms 65535 512 28
    ∷ asks (1 ∷ 9 ∷ 1 ∷ []) (1 ∷ 0 ∷ 1 ∷ []) 0
    -- a hand_out asked for with less than the base vector; a file of a log with folded records
    ∷ asks (1 ∷ 0 ∷ 1 ∷ []) (1 ∷ 0 ∷ 1 ∷ []) 0
    ∷ asks (1 ∷ 9 ∷ 0 ∷ []) (1 ∷ 0 ∷ 1 ∷ []) 27
    ∷ asks [] no_counts 0
    ∷ whole no_counts 0
    ∷ whole (replicate 7 0 ++ (1 ∷ [])) 29
    ∷ []

-- whole calls
unfoldable pub fold_calls : List FoldRow
fold_calls =
    -- behind the guard: 26 with the list given, 27, 29; an own unit that is not listed hands out and writes, with a short list too
    folds_by 254 0 [] (head_of 255 no_counts) 26 0
    ∷ folds_by 1 0 [] (head_of 255 no_counts) 0 0
    ∷ folds_by 1 0 [] (head_of 255 (0 ∷ 1 ∷ replicate 6 0)) 26 0
    ∷ folds_by 3 0 [] (head_of 2 (0 ∷ 1 ∷ replicate 6 0)) 0 0
    -- a unit whose records are all in the log is asked for too; the run goes by the list given
    ∷ folds_by 5 0 five (head_of 255 no_counts) 26 0
    ∷ folds_by 7 0 five (head_of 255 no_counts) 0 2
    ∷ folds_by 255 0 five (head_of 7 no_counts) 0 0
    -- what is asked for covers the base vector, and need not cover what is held; the header's vector counts folded records
    ∷ hands_out (head_of 255 (1 ∷ replicate 7 0)) [] [] 27 no_counts
    ∷ hands_out (head_of 2 (0 ∷ 1 ∷ replicate 6 0)) [] (0 ∷ 1 ∷ []) 0 (0 ∷ 1 ∷ replicate 6 0)
    ∷ hands_out (head_of 255 (1 ∷ 0 ∷ 1 ∷ replicate 5 0)) (take 1 (drop 2 five)) (1 ∷ 0 ∷ 1 ∷ []) 0 (1 ∷ 1 ∷ 1 ∷ replicate 5 0)
    ∷ writes_out (head_of 255 (1 ∷ replicate 7 0)) 29
    ∷ writes_out (head_of 2 no_counts) 0
    -- a taken record goes by the list stored; an act numbers on from the base vector
    ∷ tooks_in (head_of 2 no_counts) (makes_trace 1 (0 · 1) [] root A ∷ []) 26
    ∷ tooks_in (head_of 1 no_counts) (makes_trace 1 (0 · 1) [] root A ∷ []) 0
    ∷ stamps (5 ∷ replicate 7 0) (makes_trace 3 (0 · 0) [] root A) 6
    -- a call refused before its replay leaves the work memory
    ∷ works 26 7
    ∷ works 0 0
    -- the guard comes first: 1, 21, 19, the base's second byte being 1; then 26 would come
    ∷ folds_at 8 (0 ∷ 1 ∷ replicate 43030 0) 86019 1 7
    ∷ folds_at 8 (0 ∷ 1 ∷ replicate 43030 0) 86020 21 7
    ∷ folds_at 0 (0 ∷ 1 ∷ replicate 43030 0) 86020 19 7
    ∷ acts_at (0 ∷ 1 ∷ replicate 43030 0) (makes_trace 3 (0 · 0) [] root A) 19 7
    -- refused with 26, by the list given or the one stored, the work memory is left too
    ∷ folds_at 0 empty_base 86020 26 7
    ∷ acts_at (254 ∷ replicate 43031 0) (makes_trace 3 (0 · 0) [] root A) 26 7
    -- starting judges neither log nor base
    ∷ starts_at 43032 0 0 255
    ∷ starts_at 43032 8 21 9
    ∷ starts_at 43031 8 1 9
    ∷ []
