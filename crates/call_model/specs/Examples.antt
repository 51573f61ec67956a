-- Examples of takes and acts without a base, as rows of one table.
-- Document 01, the calls; document 02, K3, K7, K8.
-- Assumes nothing.
use Rattle.std.specs.Prelude.{ℕ, Bool, true, false, ◌&&◌, List, [], ◌∷◌, ◌++◌, eqb, replicate}
use Rattle.model.specs.Lengths.{tree_size}
use Rattle.model.specs.Bytes.{same_bytes}
use Rattle.model.specs.Record.{Rec, root}
use Rattle.model.specs.Log.{no_counts, sound_after}
use Rattle.model.specs.Replay.{empty_tree}
use Rattle.model.specs.Examples.{◌·◌, Shown, Standing, encode, march, makes_folder, makes_trace, stores, renames, moves, shows, A, B, C}
use Rattle.base_model.specs.Base.{empty_base}
use Rattle.call_model.specs.Outcome.{Took, refused, taken, takes_all, act_number, acted, act_of}

pub data Row : Type 0 where
  -- the records of a log, those of a block that it takes, and what it shows afterwards
  takes : List Rec → List Rec → List Shown → List Standing → Row
  -- the records of a log, those of a block, and the number under which the block is refused
  refuses : List Rec → List Rec → ℕ → Row
  -- the own unit, the records of a log, a wish, and the number that the act answers
  wishes : ℕ → List Rec → List ℕ → ℕ → Row
  -- the length of a log of zeros, the own unit, a wish, and the number that is answered before the log is judged
  guards : ℕ → ℕ → List ℕ → ℕ → Row
  -- a number with which a wish is refused: at place 0, and the log is left
  turns_away : ℕ → Row

unfoldable pub shows_taken : Took → List Shown → List Standing → Bool
shows_taken (refused n) es ss = false
shows_taken (taken m) es ss = shows m es ss

unfoldable pub is_refused : Took → ℕ → Bool
is_refused (refused n) k = eqb n k
is_refused (taken m) k = false

unfoldable pub right : Row → Bool
right (takes l rs es ss) = sound_after no_counts [] l && shows_taken (takes_all 255 no_counts l rs) es ss
right (refuses l rs n) = sound_after no_counts [] l && is_refused (takes_all 255 no_counts l rs) n
right (wishes u l w n) = eqb (act_number 255 u no_counts empty_tree l w) n
right (guards n u w e) = eqb (act_of u (replicate n 0) empty_base w (replicate tree_size 0)).number e
right (turns_away n) =
    eqb (acted 0 A no_counts A n).number n
    && (eqb (acted 0 A no_counts A n).place 0 && same_bytes (acted 0 A no_counts A n).log A)

unfoldable pub all_right : List Row → Bool
all_right [] = true
all_right (r ∷ l) = right r && all_right l

unfoldable pub table : List Row
table =
    takes (makes_trace 3 (1 · 1) [] root A ∷ []) (makes_trace 9 (0 · 1) [] root A ∷ [])
    ((0 · 1, A, 0 · 1, 0 · 1, true) ∷ [])
    ((1 · 1, 15, 0 · 1, true) ∷ [])
    -- the same of wishes
    ∷ wishes 0 (makes_trace 3 (0 · 1) [] root A ∷ []) (makes_trace 3 (0 · 0) [] root (97 ∷ [])) 15
    ∷ wishes 0 (makes_trace 3 (0 · 1) [] root A ∷ []) (renames 3 (0 · 0) [] (0 · 1) A) 0
    ∷ wishes 0 (makes_trace 3 (0 · 1) [] root A ∷ []) (renames 3 (0 · 0) [] (0 · 1) (97 ∷ [])) 0
    -- a wish is judged alike: a rename, and a make inside a folder
    ∷ wishes 0 (makes_trace 3 (0 · 1) [] root A ∷ makes_trace 3 (0 · 2) (1 ∷ []) root B ∷ []) (renames 3 (0 · 0) [] (0 · 2) (97 ∷ [])) 15
    ∷ wishes 0 (makes_folder 3 (0 · 1) [] root A ∷ makes_trace 3 (0 · 2) (1 ∷ []) (0 · 1) B ∷ []) (makes_trace 3 (0 · 0) [] (0 · 1) (98 ∷ [])) 15
    -- a full log: 11 comes before 25
    ∷ wishes 0 (replicate 512 (makes_folder 3 (0 · 1) [] root A)) (moves 3 (0 · 0) [] (0 · 1) (0 · 1) B) 11
    ∷ wishes 0 (makes_folder 3 (0 · 1) [] root A ∷ []) (moves 3 (0 · 0) [] (0 · 1) (0 · 1) B) 25
    ∷ wishes 0 (makes_folder 3 (0 · 1) [] root A ∷ []) (moves 3 (0 · 0) [] (0 · 1) (0 · 1) (47 ∷ [])) 24
    ∷ wishes 0 (makes_folder 3 (0 · 1) [] root A ∷ []) (moves 3 (0 · 0) [] (0 · 1) root B) 0
    ∷ turns_away 25
    ∷ takes (makes_trace 3 (0 · 1) [] root A ∷ makes_trace 4 (2 · 1) (1 ∷ []) root A ∷ []) (renames 5 (1 · 1) (1 ∷ []) (0 · 1) C ∷ [])
    ((0 · 1, C, 0 · 1, 1 · 1, false) ∷ (2 · 1, A, 2 · 1, 2 · 1, false) ∷ [])
    []
    -- a block whose record is held, one whose seen is covered but not closed, one with a gap, one with a held identity
    ∷ takes (makes_trace 3 (0 · 1) [] root A ∷ []) (makes_trace 3 (0 · 1) [] root A ∷ stores 3 (0 · 2) (1 ∷ []) (0 · 1) ∷ [])
    ((0 · 1, A, 0 · 2, 0 · 1, false) ∷ [])
    []
    ∷ refuses (makes_trace 3 (0 · 1) [] root A ∷ makes_trace 3 (1 · 1) (1 ∷ []) root B ∷ []) (makes_trace 3 (2 · 1) (0 ∷ 1 ∷ []) root C ∷ []) 9
    ∷ refuses (makes_trace 3 (0 · 1) [] root A ∷ []) (stores 3 (0 · 3) (2 ∷ []) (0 · 1) ∷ []) 8
    ∷ refuses (makes_trace 3 (0 · 1) [] root A ∷ []) (makes_trace 4 (0 · 1) [] root A ∷ []) 10
    ∷ refuses [] (makes_trace 3 (0 · 1) [] root (32 ∷ []) ∷ []) 7
    ∷ takes [] (makes_trace 3 (0 · 1) [] root (47 ∷ []) ∷ []) ((0 · 1, 47 ∷ [], 0 · 1, 0 · 1, false) ∷ []) []
    ∷ wishes 1 (makes_trace 3 (0 · 1) [] root (65 ∷ 47 ∷ []) ∷ []) (renames 3 (1 · 0) [] (0 · 1) B) 0
    -- a wish with a stroke first, in the middle, last, and of nothing else: make folder, make trace, rename
    ∷ wishes 0 [] (makes_folder 3 (0 · 0) [] root (47 ∷ 65 ∷ [])) 24
    ∷ wishes 0 [] (makes_trace 3 (0 · 0) [] root (65 ∷ 47 ∷ 66 ∷ [])) 24
    ∷ wishes 1 (makes_trace 3 (0 · 1) [] root A ∷ []) (renames 3 (1 · 0) [] (0 · 1) (65 ∷ 47 ∷ [])) 24
    ∷ wishes 0 [] (makes_trace 3 (0 · 0) [] root (replicate 31 65 ++ (47 ∷ []))) 24
    ∷ wishes 0 [] (makes_trace 3 (0 · 0) [] root (replicate 32 47)) 24
    -- the bytes on its two sides and a backslash; strokes in a mark
    ∷ wishes 0 [] (makes_trace 3 (0 · 0) [] root (46 ∷ 48 ∷ 92 ∷ [])) 0
    ∷ wishes 0 [] (march 3 2 (0 · 0) [] root root A (replicate 16 47)) 0
    -- 2F in another field: the year 2095
    ∷ wishes 0 []
    (encode (record { self = 0 · 0; does = 2; saw = []; object = root; folder = root; year = 2095; month = 3; day = 3; text = A; mark = [] }))
    0
    -- a stroke and another fault of form: 7F in the label, a space last, the 32nd of March, bytes where no label is used
    ∷ wishes 0 [] (makes_trace 3 (0 · 0) [] root (65 ∷ 47 ∷ 127 ∷ [])) 7
    ∷ wishes 0 [] (makes_trace 3 (0 · 0) [] root (47 ∷ 32 ∷ [])) 7
    ∷ wishes 0 [] (makes_trace 32 (0 · 0) [] root (47 ∷ [])) 7
    ∷ wishes 1 (makes_trace 3 (0 · 1) [] root A ∷ []) (march 3 3 (1 · 0) [] (0 · 1) root (47 ∷ []) []) 7
    -- a stroke comes before the reason under which the record would stand aside, and before the full log
    ∷ wishes 0 (makes_trace 3 (0 · 1) [] root A ∷ []) (makes_trace 3 (0 · 0) [] (0 · 1) B) 14
    ∷ wishes 0 (makes_trace 3 (0 · 1) [] root A ∷ []) (makes_trace 3 (0 · 0) [] (0 · 1) (47 ∷ [])) 24
    ∷ wishes 0 (replicate 512 (makes_trace 3 (0 · 1) [] root A)) (makes_trace 3 (0 · 0) [] root B) 11
    ∷ wishes 0 (replicate 512 (makes_trace 3 (0 · 1) [] root A)) (makes_trace 3 (0 · 0) [] root (47 ∷ [])) 24
    -- 1 and 21 come before it; its place is 0, and the log is left
    ∷ guards 40959 0 (makes_trace 3 (0 · 0) [] root (47 ∷ [])) 1
    ∷ guards 40960 8 (makes_trace 3 (0 · 0) [] root (47 ∷ [])) 21
    ∷ turns_away 24
    ∷ turns_away 7
    -- a taken rename or folder may have a stroke
    ∷ takes (makes_trace 3 (0 · 1) [] root A ∷ []) (renames 4 (0 · 2) (1 ∷ []) (0 · 1) (65 ∷ 47 ∷ []) ∷ [])
    ((0 · 1, 65 ∷ 47 ∷ [], 0 · 1, 0 · 2, false) ∷ [])
    []
    ∷ takes [] (makes_folder 3 (0 · 1) [] root (47 ∷ []) ∷ []) ((0 · 1, 47 ∷ [], 0 · 1, 0 · 1, false) ∷ []) []
    ∷ []
