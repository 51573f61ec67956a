-- Rows of plans that take longer to compute than those of plan_model: events and blocks in turn, all lengths lent.
-- Document 02, K13.
-- Assumes nothing.
use Rattle.std.specs.Prelude.{Bool, true, false, ◌&&◌, ℕ, List, [], ◌∷◌, ◌++◌, eqb, length, take, replicate}
use Rattle.model.specs.Bytes.{same_bytes}
use Rattle.model.specs.Record.{root}
use Rattle.model.specs.Log.{log_bytes}
use Rattle.model.specs.Examples.{◌·◌, makes_trace, A}
use Rattle.plan_model.specs.Plan.{plan_fault, Planned, planned_of}
use Rattle.plan_model.specs.Feed.{fed_to}
use Rattle.plan_model.specs.Examples.{Example, comes, comes_to, feeds, leaves, lends, prints, act, pass, takes_away, body_of, unit_text, pair_text}

unfoldable pub longer : List Example
longer =
    -- each act on its own unit's log, the others as they were; events in their order, and blocks in theirs
    comes (replicate 81920 0) (body_of 3 (act 0 0 ∷ takes_away ∷ act 1 1 ∷ [])) 1 (2 ∷ replicate 7 0) (0 ∷ 1 ∷ replicate 6 0) 3 0
    ∷ comes (replicate 81920 0) ((body_of 1 (act 0 0 ∷ []) ++ replicate 4 0) ++ body_of 1 (takes_away ∷ [])) 2 (2 ∷ replicate 7 0) (replicate 8 0) 2 0
    -- what is passed goes to the second unit
    ∷ comes (log_bytes (makes_trace 3 (0 · 1) [] root A ∷ []) ++ (1 ∷ replicate 40959 0)) (body_of 1 (pass 0 1 ∷ [])) 1 (1 ∷ replicate 7 0) (0 ∷ 1 ∷ replicate 6 0) 0 0
    -- a block that is fed is done
    ∷ feeds (body_of 1 (act 0 0 ∷ [])) 1
    -- the second unit's log is the one written
    ∷ leaves (pass 0 1) 0 1
    ∷ leaves (pass 1 0) 0 1
    -- all lengths lent, and two of them wrong
    ∷ lends 327680 43032 86020 1024 true
    ∷ lends 327680 43032 86019 1024 false
    ∷ lends 327679 43032 86020 1024 false
    ∷ []

-- pairs of which the second dominates, and both are ahead
unfoldable pub pairs_told : List Example
pairs_told =
    prints (replicate 40960 0 ++ makes_trace 3 (1 · 1) [] root A) 0 224 (pair_text 0 1 2 ++ pair_text 0 2 0)
    ∷ prints (replicate 40960 0 ++ makes_trace 3 (1 · 1) [] root A) 0 350 (pair_text 1 2 1)
    ∷ prints (log_bytes (makes_trace 3 (0 · 1) [] root A ∷ []) ++ makes_trace 3 (1 · 1) [] root A) 0 224 (pair_text 0 1 3)
    ∷ []

-- one block after another, from eight empty units on
unfoldable pub from_empty : List Example
from_empty =
    comes_to
    ((body_of 1 (act 0 0 ∷ []) ++ replicate 4 0) ++ (body_of 1 (act 1 1 ∷ []) ++ replicate 4 0))
    (1 ∷ replicate 7 0)
    (0 ∷ 1 ∷ replicate 6 0)
    2
    0
    ∷ []

-- a pass brings the record over
unfoldable pub passed_on : List Example
passed_on =
    comes (replicate 81920 0) (body_of 2 (act 0 0 ∷ pass 0 1 ∷ [])) 1 (1 ∷ replicate 7 0) (1 ∷ replicate 7 0) 1 0 ∷ []

-- a plan without a block: a text at the start of what is lent, eight logs, the base of a start, the work memory
unfoldable pub is_tried : Planned → Bool
is_tried o =
    eqb o.number 0
    && (eqb o.place 0
    && (same_bytes (take 28 o.text) (unit_text 0 0)
    && (same_bytes (take 2 o.logs) (0 ∷ 0 ∷ [])
    && (same_bytes (take 2 o.base) (255 ∷ 0 ∷ []) && (eqb (length o.base) 43032 && eqb (length o.work) 86020)))))

unfoldable pub none_tried : Bool
none_tried = is_tried (planned_of [] (replicate 327680 9) (replicate 43032 9) (replicate 86020 9) (replicate 1024 9))

-- a block without events, of archive 0, with its sums; the block behind it is the one that is refused, whole and fed
unfoldable pub good_block : List ℕ
good_block = 80 ∷ 76 ∷ 78 ∷ 49 ∷ (replicate 504 0 ++ (158 ∷ 125 ∷ 186 ∷ 120 ∷ []))

unfoldable pub second_refused : Bool
second_refused = eqb (plan_fault (good_block ++ replicate 512 0)).place 1

unfoldable pub second_fed : Bool
second_fed = eqb (fed_to (good_block ++ replicate 512 0) 2).refusal.place 1
