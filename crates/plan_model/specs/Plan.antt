-- A plan of visits: its blocks and events, how they are checked, what the eight units come to, and what is printed.
-- Document 02, K13.
-- Assumes nothing.
use Rattle.std.specs.Prelude.{ℕ, zero, suc, ◌+◌, ◌-◌, ◌*◌, ◌/◌, Bool, true, cond, not, ◌&&◌, List, [], ◌∷◌, ◌++◌, ltb, leb, eqb, get_or, length, take, drop, replicate}
use Rattle.model.specs.Numbers.{first_of, bad_buffer, bad_length, bad_letters, bad_sum, bad_header, other_archive, full_log}
use Rattle.model.specs.Lengths.{block_size, log_size, tree_size, base_size}
use Rattle.model.specs.Bytes.{blank, same_bytes, part, put_at}
use Rattle.model.specs.Vector.{compare_of}
use Rattle.model.specs.Block.{sums_hold, archive_in, sender_in, count_in}
use Rattle.model.specs.File.{Fault, fault, block_at}
use Rattle.model.specs.Listing.{decimal, seen_line, refused_line}
use Rattle.base_model.specs.Base.{empty_base, held_on}
use Rattle.call_model.specs.Outcome.{Outcome, act_of, hand_of, take_of}

-- ---- events: 84 bytes

-- event i of a block [F184]
unfoldable pub event_at : List ℕ → ℕ → List ℕ
event_at b i = part b (28 + 84 * i) 84

-- 1 act, 2 pass one block [F183]
unfoldable pub event_kind : List ℕ → ℕ
event_kind e = get_or e 0 0

unfoldable pub event_unit : List ℕ → ℕ
event_unit e = get_or e 1 0

unfoldable pub event_other : List ℕ → ℕ
event_other e = get_or e 2 0

unfoldable pub event_wish : List ℕ → List ℕ
event_wish e = part e 4 80

-- other unit and the byte behind it zero; a record of that unit with number and seen zero. No more of the record is asked [F188]
unfoldable pub act_holds : List ℕ → Bool
act_holds e =
    leb (event_unit e) 7 && (blank (part e 2 2) && (eqb (get_or e 4 0) (event_unit e) && blank (part e 6 18)))

-- two units, and zeros behind them [F188]
unfoldable pub pass_holds : List ℕ → Bool
pass_holds e =
    leb (event_unit e) 7 && (leb (event_other e) 7 && (not (eqb (event_unit e) (event_other e)) && blank (part e 3 81)))

-- [F188]
unfoldable pub event_holds : List ℕ → Bool
event_holds e = cond (eqb (event_kind e) 1) (act_holds e) (eqb (event_kind e) 2 && pass_holds e)

-- the n events of a block from event i on
unfoldable pub events_hold : List ℕ → ℕ → ℕ → Bool
events_hold b i zero = true
events_hold b i (suc n) = event_holds (event_at b i) && events_hold b (suc i) n

-- ---- the checks

-- the letters PLN1
abbrev pub plan_letters : List ℕ
plan_letters = 80 ∷ 76 ∷ 78 ∷ 49 ∷ []

-- a plan's event is not one
abbrev pub bad_event : ℕ
bad_event = 30

-- the most blocks
abbrev pub plan_blocks : ℕ
plan_blocks = 4096

-- at most five events; unit, place and vector zero, and zeros behind the events [F184] [F187]
unfoldable pub plan_header_holds : List ℕ → Bool
plan_header_holds b =
    leb (count_in b) 5
    && (eqb (sender_in b) 0 && (blank (part b 10 18) && blank (part b (28 + 84 * count_in b) (480 - 84 * count_in b))))

-- the first of 5, 6 and 30 that holds of a block, or 0; the archive is the first block's [F187]
unfoldable pub plan_body_fault : ℕ → List ℕ → ℕ
plan_body_fault archive b =
    cond (plan_header_holds b)
    (cond (eqb (archive_in b) archive)
    (cond (events_hold b 0 (count_in b)) 0 bad_event)  -- 30
    other_archive)  -- 6
    bad_header  -- 5

-- of a block of 512 bytes 3 and 4 come before these [F187]
unfoldable pub plan_block_fault : ℕ → List ℕ → ℕ
plan_block_fault archive b =
    cond (same_bytes (take 4 b) plan_letters)
    (cond (sums_hold b) (plan_body_fault archive b) bad_sum)  -- 4
    bad_letters  -- 3

-- the block k of a plan: 2 where it is a part of a block, or one too many [F186]
unfoldable pub piece_fault : ℕ → ℕ → List ℕ → ℕ
piece_fault archive k b = cond (ltb k plan_blocks && eqb (length b) block_size) (plan_block_fault archive b) bad_length

-- 2 has the place 0, the others that of their block [F186]
abbrev pub piece_fault_at : ℕ → ℕ → Fault
piece_fault_at n k = fault n (cond (eqb n bad_length) 0 k)

-- a plan's blocks, a part at its end counted
unfoldable pub pieces : List ℕ → ℕ
pieces f = (length f + 511) / 512

-- the archive of a plan; where it has no whole block it decides nothing
unfoldable pub plan_archive : List ℕ → ℕ
plan_archive f = cond (leb block_size (length f)) (archive_in (block_at f 0)) 0

-- the first fault of the n blocks from k on, each with its events before the next [F186]
unfoldable pub plan_fault_from : List ℕ → ℕ → ℕ → Fault
plan_fault_from f k zero = fault 0 0
plan_fault_from f k (suc n) =
    cond (eqb (piece_fault (plan_archive f) k (block_at f k)) 0)
    (plan_fault_from f (suc k) n)
    (piece_fault_at (piece_fault (plan_archive f) k (block_at f k)) k)

-- [F186]
unfoldable pub plan_fault : List ℕ → Fault
plan_fault f = plan_fault_from f 0 (pieces f)

-- ---- the units

-- eight logs end to end
abbrev pub round_size : ℕ
round_size = 327680

-- the eight logs, how many records the acts have made, how many acts were skipped
pub record Round : Type 0 where
  pub logs : List ℕ
  pub made : ℕ
  pub skipped : ℕ

abbrev pub round : List ℕ → ℕ → ℕ → Round
round s m k = record { logs = s; made = m; skipped = k }

-- all eight are empty; nothing folds, so each has the base of a start throughout [F185]
abbrev pub new_round : Round
new_round = round (replicate round_size 0) 0 0

unfoldable pub log_at : List ℕ → ℕ → List ℕ
log_at s u = part s (log_size * u) log_size

unfoldable pub with_log : List ℕ → ℕ → List ℕ → List ℕ
with_log s u l = put_at s (log_size * u) l

-- the true vector of a unit
unfoldable pub true_vector : List ℕ → ℕ → List ℕ
true_vector s u = held_on (log_at s u) empty_base

-- what an act comes to; 11 where it would make a 513th record among all of them [F189]
unfoldable pub act_answer : ℕ → Outcome → ℕ
act_answer m o = first_of o.number (cond (ltb m 512) 0 full_log)

-- an act is skipped exactly when it is refused [F189]
unfoldable pub act_done : Round → ℕ → Outcome → Round
act_done s u o =
    cond (eqb (act_answer s.made o) 0)
    (round (with_log s.logs u o.log) (suc s.made) s.skipped)
    (round s.logs s.made (suc s.skipped))

-- the wish w of the unit u
unfoldable pub act_tried : List ℕ → ℕ → List ℕ → Outcome
act_tried s u w = act_of u (log_at s u) empty_base w (replicate tree_size 0)

-- a hands out by the true vector of b [F190]
unfoldable pub pass_handed : ℕ → List ℕ → ℕ → ℕ → Outcome
pass_handed archive s a b = hand_of archive a (log_at s a) empty_base (true_vector s b) (replicate block_size 0)

-- and b takes it [F190]
unfoldable pub pass_taken : ℕ → List ℕ → ℕ → ℕ → Outcome
pass_taken archive s a b = take_of archive b (log_at s b) empty_base (pass_handed archive s a b).lent

-- a pass is not skipped [F190]
unfoldable pub pass_done : Round → ℕ → Outcome → Round
pass_done s b o = round (with_log s.logs b o.log) s.made s.skipped

-- [F189] [F190]
unfoldable pub event_done : ℕ → Round → List ℕ → Round
event_done archive s e =
    cond (eqb (event_kind e) 1)
    (act_done s (event_unit e) (act_tried s.logs (event_unit e) (event_wish e)))
    (pass_done s (event_other e) (pass_taken archive s.logs (event_unit e) (event_other e)))

-- the n events of a block from event i on
unfoldable pub events_done : ℕ → Round → List ℕ → ℕ → ℕ → Round
events_done archive s b i zero = s
events_done archive s b i (suc n) = events_done archive (event_done archive s (event_at b i)) b (suc i) n

unfoldable pub block_done : ℕ → Round → List ℕ → Round
block_done archive s b = events_done archive s b 0 (count_in b)

-- the n blocks of a plan from block k on
unfoldable pub blocks_done : ℕ → Round → List ℕ → ℕ → ℕ → Round
blocks_done archive s f k zero = s
blocks_done archive s f k (suc n) = blocks_done archive (block_done archive s (block_at f k)) f (suc k) n

-- what the units come to by a plan that is accepted
unfoldable pub round_of : List ℕ → Round
round_of f = blocks_done (plan_archive f) new_round f 0 (pieces f)

-- ---- what is printed

-- "unit "
abbrev pub unit_start : List ℕ
unit_start = 117 ∷ 110 ∷ 105 ∷ 116 ∷ 32 ∷ []

-- "pair "
abbrev pub pair_start : List ℕ
pair_start = 112 ∷ 97 ∷ 105 ∷ 114 ∷ 32 ∷ []

-- " answer "
abbrev pub answer_word : List ℕ
answer_word = 32 ∷ 97 ∷ 110 ∷ 115 ∷ 119 ∷ 101 ∷ 114 ∷ 32 ∷ []

-- "skipped "
abbrev pub skipped_start : List ℕ
skipped_start = 115 ∷ 107 ∷ 105 ∷ 112 ∷ 112 ∷ 101 ∷ 100 ∷ 32 ∷ []

-- unit 0 seen 0 0 0 0 0 0 0 0 [F191]
unfoldable pub unit_line : ℕ → List ℕ → List ℕ
unit_line u v = unit_start ++ (decimal u ++ (32 ∷ seen_line v))

-- pair 0 1 answer 0 [F191]
unfoldable pub pair_line : ℕ → ℕ → ℕ → List ℕ
pair_line a b n = pair_start ++ (decimal a ++ (32 ∷ (decimal b ++ (answer_word ++ (decimal n ++ (10 ∷ []))))))

-- skipped 0 [F191]
unfoldable pub skipped_line : ℕ → List ℕ
skipped_line n = skipped_start ++ (decimal n ++ (10 ∷ []))

-- the lines of the first n units
unfoldable pub unit_lines : List ℕ → ℕ → List ℕ
unit_lines s zero = []
unit_lines s (suc u) = unit_lines s u ++ unit_line u (true_vector s u)

-- unit a against the first n units above it, the lower unit first
unfoldable pub pairs_of : List ℕ → ℕ → ℕ → List ℕ
pairs_of s a zero = []
pairs_of s a (suc n) = pairs_of s a n ++ pair_line a (a + suc n) (compare_of (true_vector s a) (true_vector s (a + suc n)))

-- the pairs whose lower unit is one of the first n
unfoldable pub pair_lines : List ℕ → ℕ → List ℕ
pair_lines s zero = []
pair_lines s (suc a) = pair_lines s a ++ pairs_of s a (7 - a)

-- [F191]
unfoldable pub round_text : Round → List ℕ
round_text s = unit_lines s.logs 8 ++ (pair_lines s.logs 8 ++ skipped_line s.skipped)

-- a refused plan prints its refusal alone [F191]
unfoldable pub plan_text : List ℕ → List ℕ
plan_text f =
    cond (eqb (plan_fault f).number 0) (round_text (round_of f)) (refused_line (plan_fault f).number (plan_fault f).place)

-- ---- a plan in memory

-- a text at the most
abbrev pub plan_text_size : ℕ
plan_text_size = 1024

-- the number and place answered, how long the text is; the eight logs, base, work memory and text as they are left
pub record Planned : Type 0 where
  pub number : ℕ
  pub place : ℕ
  pub size : ℕ
  pub logs : List ℕ
  pub base : List ℕ
  pub work : List ℕ
  pub text : List ℕ

abbrev pub planned : ℕ → ℕ → ℕ → List ℕ → List ℕ → List ℕ → List ℕ → Planned
planned n p k logs base work text =
    record { number = n; place = p; size = k; logs = logs; base = base; work = work; text = text }

-- the lengths lent
abbrev pub plan_lent : List ℕ → List ℕ → List ℕ → List ℕ → Bool
plan_lent logs base work text =
    eqb (length text) plan_text_size
    && (eqb (length base) base_size && (eqb (length work) tree_size && eqb (length logs) round_size))

-- the logs are those of the units at the end, the base that of a start, the work memory zero [F192]
unfoldable pub planned_round : List ℕ → List ℕ → Planned
planned_round f text =
    planned 0 0 (length (plan_text f)) (round_of f).logs empty_base (replicate tree_size 0) (put_at text 0 (plan_text f))

-- a refused plan writes its line and nothing else [F192]
unfoldable pub planned_refusal : Fault → List ℕ → List ℕ → List ℕ → List ℕ → Planned
planned_refusal x logs base work text =
    planned
    x.number
    x.place
    (length (refused_line x.number x.place))
    logs
    base
    work
    (put_at text 0 (refused_line x.number x.place))

-- behind the text all is left [F192]
unfoldable pub planned_of : List ℕ → List ℕ → List ℕ → List ℕ → List ℕ → Planned
planned_of f logs base work text =
    cond (plan_lent logs base work text)
    (cond (eqb (plan_fault f).number 0) (planned_round f text) (planned_refusal (plan_fault f) logs base work text))
    (planned bad_buffer 0 0 logs base work text)
