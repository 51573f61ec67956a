-- Examples of plans, as rows of two tables. No plan block here has its sums, which take long to compute: what is asked behind them is asked
-- of its first 508 bytes.
-- Document 02, K13.
-- Assumes nothing.
use Rattle.std.specs.Prelude.{ℕ, ◌+◌, Bool, true, false, ◌&&◌, List, [], ◌∷◌, ◌++◌, eqb, get_or, length, take, drop, replicate}
use Rattle.model.specs.Bytes.{four, same_bytes, part, padded, put_at, joined}
use Rattle.model.specs.Record.{Rec, root}
use Rattle.model.specs.Log.{log_bytes}
use Rattle.model.specs.Block.{archive_in, sender_in, place_in, block_records}
use Rattle.model.specs.File.{Fault, fault}
use Rattle.model.specs.Examples.{◌·◌, march, makes_trace, same_flag, same_records, A, B}
use Rattle.call_model.specs.Outcome.{Outcome, outcome}
use Rattle.plan_model.specs.Plan.{event_holds, plan_letters, plan_body_fault, piece_fault, piece_fault_at, pieces, plan_archive, plan_fault, Round, round, new_round, true_vector, act_answer, act_done, pass_handed, pass_taken, pass_done, event_done, blocks_done, round_of, round_text, plan_text, plan_lent, Planned, planned_refusal, planned_of}
use Rattle.plan_model.specs.Feed.{Fed, passes, stops_at, judged_fed, feed_of, fed_to, fed_text}

-- ---- the rows

pub data Example : Type 0 where
  -- an event, and whether it passes
  holds : List ℕ → Bool → Example
  -- the first block's archive, the first 508 bytes of a block, and the first of 5, 6 and 30 or 0
  judges : ℕ → List ℕ → ℕ → Example
  -- the place of a block whose sums are zero, its bytes, and its number
  finds : ℕ → List ℕ → ℕ → Example
  -- a number, the place of its block, and the place that is said
  places : ℕ → ℕ → ℕ → Example
  -- how many bytes, and how many blocks
  cuts : ℕ → ℕ → Example
  -- a plan that is refused: its number, its place, and what is printed, whole and fed
  refuses : List ℕ → ℕ → ℕ → List ℕ → Example
  -- how many blocks were fed, a block that is refused, its number and place
  stops : ℕ → List ℕ → ℕ → ℕ → Example
  -- how many blocks were fed, their archive, a block that passed, the archive then, and how many acts were skipped then
  goes_on : ℕ → ℕ → List ℕ → ℕ → ℕ → Example
  -- how many records are made, the number of the act itself, and what it comes to
  acts : ℕ → ℕ → ℕ → Example
  -- how many records are made, the number of an act of unit 1; records and skipped acts then, and the first byte of that unit's log
  counts : ℕ → ℕ → ℕ → ℕ → ℕ → Example
  -- the number of what was passed to unit 1, and the first byte of its log then; records made and acts skipped stay
  puts : ℕ → ℕ → Example
  -- how many bytes are lent for logs, base, work memory and text, and whether that is right
  lends : ℕ → ℕ → ℕ → ℕ → Bool → Example
  -- logs from unit 0 on, how many were skipped, a place, and the text that is printed from there on
  prints : List ℕ → ℕ → ℕ → List ℕ → Example
  -- an event of unit 1 or to it, the vectors of the units 0 and 1 then, how many records are made, and how many acts skipped
  happens : List ℕ → List ℕ → List ℕ → ℕ → ℕ → Example
  -- the records of unit 0, those of unit 1, and those that unit 0 hands out to unit 1
  hands : List Rec → List Rec → List Rec → Example
  -- the logs of the units 0 and 1, and the number of what unit 0 passes to unit 1
  passes_to : List ℕ → List ℕ → ℕ → Example
  -- of a round at its start: records made, acts skipped
  starts : ℕ → ℕ → Example
  -- a plan, and its archive
  archives : List ℕ → ℕ → Example
  -- logs from unit 0 on, and how the text of a plan fed to these begins
  fed_shows : List ℕ → List ℕ → Example
  -- an event where unit 0 has no record and the log of unit 1 begins with a byte 1, which is not sound, and the first bytes of both logs then
  leaves : List ℕ → ℕ → ℕ → Example
  -- a plan that has passed, the vectors of the units 0 and 1 then, how many records are made, and how many acts skipped
  comes_to : List ℕ → List ℕ → List ℕ → ℕ → ℕ → Example
  -- a number, its place, and the line that is printed, fed and in memory
  tells : ℕ → ℕ → List ℕ → Example
  -- the logs of two units, the blocks of a plan and how many they are; then as happens
  comes : List ℕ → List ℕ → ℕ → List ℕ → List ℕ → ℕ → ℕ → Example
  -- a block that is fed to two units, and how many records are made
  feeds : List ℕ → ℕ → Example

-- ---- events and blocks

-- an act of the unit u whose record is the unit w's, number and seen zero; it makes the trace A
unfoldable pub act : ℕ → ℕ → List ℕ
act u w = 1 ∷ u ∷ 0 ∷ 0 ∷ march 3 2 (w · 0) [] root root A (replicate 16 9)

unfoldable pub pass : ℕ → ℕ → List ℕ
pass a b = 2 ∷ a ∷ b ∷ replicate 81 0

-- unit 0 removes 0.1
unfoldable pub takes_away : List ℕ
takes_away = 1 ∷ 0 ∷ 0 ∷ 0 ∷ march 4 4 (0 · 0) [] (0 · 1) root [] []

-- the first 508 bytes of a block of archive 7: so many events said, and these
unfoldable pub body_of : ℕ → List (List ℕ) → List ℕ
body_of n l = padded 508 (plan_letters ++ (four 7 ++ ((0 ∷ n ∷ replicate 18 0) ++ joined l)))

-- with one byte set
unfoldable pub set_at : List ℕ → ℕ → List ℕ
set_at b i = put_at b i (1 ∷ [])

-- "refused 2 at 0"
unfoldable pub refused_two : List ℕ
refused_two = 114 ∷ 101 ∷ 102 ∷ 117 ∷ 115 ∷ 101 ∷ 100 ∷ 32 ∷ 50 ∷ 32 ∷ 97 ∷ 116 ∷ 32 ∷ 48 ∷ 10 ∷ []

-- "refused 3 at 0"
unfoldable pub refused_three : List ℕ
refused_three = 114 ∷ 101 ∷ 102 ∷ 117 ∷ 115 ∷ 101 ∷ 100 ∷ 32 ∷ 51 ∷ 32 ∷ 97 ∷ 116 ∷ 32 ∷ 48 ∷ 10 ∷ []

-- "refused 3 at 7"
unfoldable pub refused_at_seven : List ℕ
refused_at_seven = 114 ∷ 101 ∷ 102 ∷ 117 ∷ 115 ∷ 101 ∷ 100 ∷ 32 ∷ 51 ∷ 32 ∷ 97 ∷ 116 ∷ 32 ∷ 55 ∷ 10 ∷ []

-- "unit 0 seen 0 0 0 0 0 0 0 0", with the unit u and the first count c
unfoldable pub unit_text : ℕ → ℕ → List ℕ
unit_text u c =
    117 ∷ 110 ∷ 105 ∷ 116 ∷ 32 ∷ (48 + u) ∷ 32 ∷ 115 ∷ 101 ∷ 101 ∷ 110 ∷ 32 ∷ (48 + c) ∷ 32 ∷ 48 ∷ 32 ∷ 48 ∷ 32 ∷ 48 ∷ 32 ∷ 48 ∷ 32 ∷ 48 ∷ 32 ∷ 48 ∷ 32 ∷ 48 ∷ 10 ∷ []

-- "pair 0 1 answer 0", with the units a and b and the answer n
unfoldable pub pair_text : ℕ → ℕ → ℕ → List ℕ
pair_text a b n =
    112 ∷ 97 ∷ 105 ∷ 114 ∷ 32 ∷ (48 + a) ∷ 32 ∷ (48 + b) ∷ 32 ∷ 97 ∷ 110 ∷ 115 ∷ 119 ∷ 101 ∷ 114 ∷ 32 ∷ (48 + n) ∷ 10 ∷ []

-- "skipped 12"
unfoldable pub skipped_twelve : List ℕ
skipped_twelve = 115 ∷ 107 ∷ 105 ∷ 112 ∷ 112 ∷ 101 ∷ 100 ∷ 32 ∷ 49 ∷ 50 ∷ 10 ∷ []

-- ---- what a row says

unfoldable pub is_fault : Fault → ℕ → ℕ → Bool
is_fault x n p = eqb x.number n && eqb x.place p

unfoldable pub is_round : Round → ℕ → ℕ → Bool
is_round s m k = eqb s.made m && eqb s.skipped k

-- a block of archive 7, unit 0 and place 0 with these records
unfoldable pub is_handed : List ℕ → List Rec → Bool
is_handed b rs = eqb (archive_in b) 7 && (eqb (sender_in b) 0 && (eqb (place_in b) 0 && same_records (block_records b) rs))

-- so many blocks of this archive have passed; three records were made and five acts skipped
unfoldable pub fed : ℕ → ℕ → Fed
fed n archive = record { refusal = fault 0 0; blocks = n; archive = archive; state = round [] 3 5 }

-- nothing yet, of two units
unfoldable pub fed_none : Fed
fed_none = record { refusal = fault 0 0; blocks = 0; archive = 7; state = round (replicate 81920 0) 0 0 }

-- a refused plan leaves logs, base and work memory, and all behind its line
unfoldable pub is_left : Planned → Bool
is_left o =
    eqb o.number 2
    && (eqb o.place 0
    && (eqb o.size 15
    && (same_bytes o.logs (9 ∷ []) && (same_bytes o.base (8 ∷ []) && (same_bytes o.work (7 ∷ []) && same_bytes o.text (refused_two ++ (9 ∷ 9 ∷ [])))))))

-- the round, and the first byte behind 40,960: of the log of unit 1
unfoldable pub is_counted : Round → ℕ → ℕ → ℕ → Bool
is_counted s m k x = is_round s m k && eqb (get_or s.logs 40960 0) x

unfoldable pub is_after : Round → List ℕ → List ℕ → ℕ → ℕ → Bool
is_after s v w m k =
    is_round s m k && (same_bytes (true_vector s.logs 0) v && same_bytes (true_vector s.logs 1) w)

unfoldable pub is_passed : Outcome → ℕ → Bool
is_passed o n = eqb o.number n

-- no block is counted, and a block behind changes nothing
unfoldable pub is_stopped : Fed → ℕ → ℕ → ℕ → Bool
is_stopped s n x p =
    is_fault s.refusal x p
    && (eqb s.blocks n && (eqb s.archive 7 && (is_round s.state 3 5 && is_fault (feed_of s (body_of 0 [])).refusal x p)))

unfoldable pub is_going : Fed → ℕ → ℕ → ℕ → Bool
is_going s n archive k =
    is_fault s.refusal 0 0 && (eqb s.archive archive && (eqb s.blocks (n + 1) && is_round s.state 3 k))

-- the first bytes of the logs of the units 0 and 1
unfoldable pub is_kept : Round → ℕ → ℕ → Bool
is_kept s x y = eqb (get_or s.logs 0 0) x && eqb (get_or s.logs 40960 0) y

unfoldable pub is_told : Planned → List ℕ → ℕ → List ℕ → Bool
is_told o u p t = eqb o.place p && (same_bytes o.text t && same_bytes u t)

unfoldable pub is_refused : Fault → List ℕ → ℕ → ℕ → List ℕ → Bool
is_refused x u n p t = is_fault x n p && same_bytes u t

unfoldable pub right : Example → Bool
right (holds e b) = same_flag (event_holds e) b
right (judges archive b n) = eqb (plan_body_fault archive b) n
right (finds k b n) = eqb (piece_fault 7 k b) n
right (places n k p) = is_fault (piece_fault_at n k) n p
right (cuts n k) = eqb (pieces (replicate n 0)) k
right (refuses f n p t) =
    is_refused (plan_fault f) (plan_text f) n p t && is_refused (fed_to f (pieces f)).refusal (fed_text (fed_to f (pieces f))) n p t
right (stops n b x p) = is_stopped (feed_of (fed n 7) b) n x p
right (goes_on n archive b x k) = is_going (judged_fed (fed n archive) b 0) n x k
right (acts m n k) = eqb (act_answer m (outcome n 0 [] [] 0)) k
right (counts m n p k x) = is_counted (act_done (round (replicate 40960 0) m 5) 1 (outcome n 0 (8 ∷ []) [] 0)) p k x
right (puts n x) = is_counted (pass_done (round (replicate 40960 0) 3 5) 1 (outcome n 0 (8 ∷ []) [] 0)) 3 5 x
right (lends a b c d x) = same_flag (plan_lent (replicate a 0) (replicate b 0) (replicate c 0) (replicate d 0)) x
right (prints s k at t) = same_bytes (part (round_text (round s 0 k)) at (length t)) t
right (happens e v w m k) = is_after (event_done 7 (round (replicate 81920 0) 0 0) e) v w m k
right (hands l m rs) = is_handed (pass_handed 7 (log_bytes l ++ log_bytes m) 0 1).lent rs
right (passes_to a b n) = is_passed (pass_taken 7 (a ++ b) 0 1) n
right (starts m k) = is_round new_round m k
right (archives f n) = eqb (plan_archive f) n
right (fed_shows s t) =
    same_bytes (take (length t) (fed_text (record { refusal = fault 0 0; blocks = 1; archive = 7; state = round s 0 0 }))) t
right (leaves e x y) = is_kept (event_done 7 (round (replicate 40960 0 ++ (1 ∷ replicate 40959 0)) 0 0) e) x y
right (comes_to f v w m k) = is_after (round_of f) v w m k
right (tells n p t) = is_told (planned_refusal (fault n p) [] [] [] []) (fed_text (stops_at (fed p 7) n)) p t
right (comes s f n v w m k) = is_after (blocks_done 7 (round s 0 0) f 0 n) v w m k
right (feeds b m) = eqb (passes fed_none 7 b).state.made m

unfoldable pub all_right : List Example → Bool
all_right [] = true
all_right (r ∷ l) = right r && all_right l

-- ---- the tables

-- the checks, the counts, the text
unfoldable pub checks : List Example
checks =
    -- an act and a pass
    holds (act 0 0) true
    ∷ holds (act 7 7) true
    ∷ holds (pass 0 1) true
    ∷ holds (pass 7 0) true
    ∷ holds (pass 0 7) true
    -- an unknown kind
    ∷ holds (0 ∷ drop 1 (act 0 0)) false
    ∷ holds (3 ∷ drop 1 (pass 0 1)) false
    ∷ holds (3 ∷ drop 1 (act 0 0)) false
    ∷ holds (0 ∷ drop 1 (pass 0 1)) false
    ∷ holds (replicate 84 0) false
    -- a unit above 7; a pass to itself
    ∷ holds (1 ∷ 8 ∷ 0 ∷ 0 ∷ 8 ∷ replicate 79 0) false
    ∷ holds (pass 8 0) false
    ∷ holds (pass 0 8) false
    ∷ holds (pass 3 3) false
    -- an act record of another unit
    ∷ holds (act 0 1) false
    -- of an act: the other unit, the byte behind it, number and seen
    ∷ holds (set_at (act 0 0) 2) false
    ∷ holds (set_at (act 0 0) 3) false
    ∷ holds (set_at (act 0 0) 6) false
    ∷ holds (set_at (act 0 0) 7) false
    ∷ holds (set_at (act 0 0) 8) false
    ∷ holds (set_at (act 0 0) 23) false
    ∷ holds (put_at (act 0 0) 9 (replicate 14 1)) false
    -- and nothing else: the operation, an object, all zeros
    ∷ holds (put_at (act 0 0) 5 (9 ∷ [])) true
    ∷ holds (set_at (act 0 0) 24) true
    ∷ holds (1 ∷ replicate 83 0) true
    -- of a pass: every byte behind the units
    ∷ holds (set_at (pass 0 1) 3) false
    ∷ holds (set_at (pass 0 1) 4) false
    ∷ holds (set_at (pass 0 1) 83) false
    ∷ holds (put_at (pass 0 1) 5 (replicate 78 1)) false
    -- 0 to 5 events
    ∷ judges 7 (body_of 0 []) 0
    ∷ judges 7 (body_of 1 (act 0 0 ∷ [])) 0
    ∷ judges 7 (body_of 2 (act 0 0 ∷ pass 0 1 ∷ [])) 0
    ∷ judges 7 (body_of 5 (act 0 0 ∷ pass 0 1 ∷ pass 0 2 ∷ pass 0 3 ∷ pass 0 4 ∷ [])) 0
    ∷ judges 7 (body_of 6 []) 5
    -- a set byte in unit, place, vector, behind the events, and behind five of them
    ∷ judges 7 (set_at (body_of 0 []) 8) 5
    ∷ judges 7 (set_at (body_of 0 []) 10) 5
    ∷ judges 7 (put_at (body_of 0 []) 11 (replicate 16 1)) 5
    ∷ judges 7 (set_at (body_of 0 []) 27) 5
    ∷ judges 7 (set_at (body_of 0 []) 28) 5
    ∷ judges 7 (set_at (body_of 1 (pass 0 1 ∷ [])) 112) 5
    ∷ judges 7 (set_at (body_of 1 (pass 0 1 ∷ [])) 507) 5
    ∷ judges 7 (set_at (body_of 1 (pass 0 1 ∷ [])) 111) 30
    ∷ judges 7 (set_at (body_of 5 (pass 0 1 ∷ pass 0 1 ∷ pass 0 2 ∷ pass 0 3 ∷ pass 0 4 ∷ [])) 448) 5
    ∷ judges 7 (set_at (body_of 0 []) 507) 5
    ∷ judges 7 (body_of 0 [] ++ replicate 4 1) 0
    -- 5 before 6 and 30, 6 before 30; any of the events; all of the archive
    ∷ judges 8 (set_at (body_of 0 []) 8) 5
    ∷ judges 7 (set_at (body_of 1 (pass 1 1 ∷ [])) 8) 5
    ∷ judges 8 (body_of 1 (pass 1 1 ∷ [])) 6
    ∷ judges 7 (body_of 1 (pass 1 1 ∷ [])) 30
    ∷ judges 7 (body_of 2 (pass 0 1 ∷ pass 1 1 ∷ [])) 30
    ∷ judges 7 (body_of 2 (pass 1 1 ∷ pass 0 1 ∷ [])) 30
    ∷ judges 7 (body_of 5 (pass 0 1 ∷ pass 0 2 ∷ pass 0 3 ∷ pass 0 4 ∷ pass 1 1 ∷ [])) 30
    ∷ judges 65543 (body_of 0 []) 6
    ∷ judges 6 (body_of 0 []) 6
    ∷ judges 8 (body_of 0 []) 6
    -- 3 before 4, 4 before 5; 2 of a part and of one too many, before 3
    ∷ finds 0 (83 ∷ 65 ∷ 66 ∷ 49 ∷ replicate 508 0) 3
    ∷ finds 0 (80 ∷ 65 ∷ 66 ∷ 49 ∷ replicate 508 0) 3
    ∷ finds 0 (80 ∷ 76 ∷ 78 ∷ 50 ∷ replicate 508 0) 3
    ∷ finds 0 (set_at (80 ∷ 76 ∷ 78 ∷ 49 ∷ replicate 508 0) 8) 4
    ∷ finds 0 (replicate 511 0) 2
    ∷ finds 0 (replicate 513 0) 2
    ∷ finds 4095 (replicate 512 0) 3
    ∷ finds 4096 (replicate 512 0) 2
    ∷ finds 4096 (replicate 1 0) 2
    -- 2 has no place, the others have that of their block
    ∷ places 2 7 0
    ∷ places 3 7 7
    ∷ places 30 4095 4095
    ∷ cuts 0 0
    ∷ cuts 1 1
    ∷ cuts 512 1
    ∷ cuts 513 2
    -- a part block; one behind a block that is refused
    ∷ refuses (80 ∷ []) 2 0 refused_two
    ∷ refuses (replicate 513 0) 3 0 refused_three
    -- fed: the place is how many blocks came before; behind a refusal nothing changes it
    ∷ stops 0 (replicate 512 0) 3 0
    ∷ stops 7 (replicate 512 0) 3 7
    ∷ stops 7 (replicate 100 0) 2 0
    ∷ stops 4095 (replicate 512 0) 3 4095
    ∷ stops 4096 (replicate 512 0) 2 0
    -- the archive is the first block's; the events of the block happen, here an act without a log
    ∷ goes_on 0 0 (body_of 0 [] ++ replicate 4 0) 7 5
    ∷ goes_on 3 9 (body_of 0 [] ++ replicate 4 0) 9 5
    ∷ goes_on 3 9 (body_of 1 (act 1 1 ∷ []) ++ replicate 4 0) 9 6
    -- the 513th record, an act that is refused anyway
    ∷ acts 511 0 0
    ∷ acts 512 0 11
    ∷ acts 0 15 15
    ∷ acts 512 15 15
    -- eight units, 28 pairs, those skipped
    ∷ prints [] 12 0 (unit_text 0 0 ++ unit_text 1 0)
    ∷ prints [] 12 196 (unit_text 7 0 ++ (pair_text 0 1 0 ++ pair_text 0 2 0))
    ∷ prints [] 12 332 (pair_text 0 7 0 ++ pair_text 1 2 0)
    ∷ prints [] 12 710 (pair_text 6 7 0 ++ skipped_twelve)
    -- the lower unit first
    ∷ prints (makes_trace 3 (0 · 1) [] root A) 0 0 (unit_text 0 1 ++ unit_text 1 0)
    ∷ prints (makes_trace 3 (0 · 1) [] root A) 0 224 (pair_text 0 1 1)
    ∷ prints (makes_trace 3 (0 · 1) [] root A) 0 332 (pair_text 0 7 1 ++ pair_text 1 2 0)
    ∷ fed_shows (makes_trace 3 (0 · 1) [] root A) (unit_text 0 1)
    -- a lent length that is wrong; the text is judged first
    ∷ lends 327680 43032 86020 1023 false
    ∷ lends 327680 43031 86020 1024 false
    ∷ lends 40960 43032 86020 1024 false
    -- nothing is made or skipped at first; the first block's archive; a refusal's place is told
    ∷ starts 0 0
    ∷ archives (body_of 0 [] ++ replicate 516 9) 7
    ∷ tells 3 7 refused_at_seven
    ∷ []

-- a refused plan leaves all that is lent but the text
unfoldable pub refused_leaves : Bool
refused_leaves = is_left (planned_refusal (fault 2 0) (9 ∷ []) (8 ∷ []) (7 ∷ []) (replicate 17 9))

-- lent memory of a wrong length is left, and comes before a part block
unfoldable pub is_untouched : Planned → Bool
is_untouched o =
    eqb o.number 1
    && (eqb o.place 0
    && (eqb o.size 0
    && (same_bytes o.logs (9 ∷ []) && (same_bytes o.base (8 ∷ []) && (same_bytes o.work (7 ∷ []) && same_bytes o.text (6 ∷ []))))))

unfoldable pub not_lent_leaves : Bool
not_lent_leaves = is_untouched (planned_of (80 ∷ []) (9 ∷ []) (8 ∷ []) (7 ∷ []) (6 ∷ []))

-- whole calls, and records counted
unfoldable pub doings : List Example
doings =
    -- an act makes a record or is skipped
    counts 511 0 512 5 8
    ∷ counts 512 0 512 6 0
    ∷ counts 3 15 3 6 0
    ∷ happens (act 1 1) (replicate 8 0) (0 ∷ 1 ∷ replicate 6 0) 1 0
    -- by the taker's true vector
    ∷ hands (makes_trace 3 (0 · 1) [] root A ∷ makes_trace 3 (0 · 2) (1 ∷ []) root B ∷ []) (makes_trace 3 (0 · 1) [] root A ∷ []) (makes_trace 3 (0 · 2) (1 ∷ []) root B ∷ [])
    -- it stands in the log of the second unit, and is never counted; the second unit takes, here with a log that is not sound, as none is in a plan
    ∷ puts 0 8
    ∷ puts 11 8
    ∷ passes_to (replicate 40960 0) (1 ∷ replicate 40959 0) 19
    -- a log that is not sound gives nothing: the zeros are no block
    ∷ passes_to (1 ∷ replicate 40959 0) (replicate 40960 0) 3
    ∷ []
