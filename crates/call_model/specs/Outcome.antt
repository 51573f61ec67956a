-- What each entry point answers and leaves, for every refusal and for success: what the contracts cite. A state is a log and a base; the
-- base is read only, but for starting, which writes it.
-- Document 01, "Log, blocks and file"; the order of the checks, "When a call says no"; document 02, K10.
-- Assumes nothing.
use Rattle.std.specs.Prelude.{ℕ, zero, suc, ◌+◌, ◌-◌, ◌*◌, Bool, true, false, cond, ◌&&◌, ◌||◌, List, [], ◌∷◌, ◌++◌, ltb, leb, eqb, get_or, length, take, drop, replicate}
use Rattle.std.proofs.Math.Option.{Option, none, some}
use Rattle.model.specs.Numbers.{first_of, bad_buffer, bad_length, malformed, not_next, not_closed, other_bytes, full_log, unsound_log, bad_unit, stroke_in_label, unlisted, below_base, last_number, folded_records}
use Rattle.model.specs.Lengths.{record_size, block_size, log_size, file_size, tree_size, base_size, log_places}
use Rattle.model.specs.Bytes.{two, blank, same_bytes, part, padded}
use Rattle.model.specs.Vector.{covers, vector_bytes}
use Rattle.model.specs.Record.{Rec, unit, num, seen_vector, label_of, has_stroke, well_formed}
use Rattle.model.specs.Log.{insert, count_on, vector_on, by_id, is_next, is_within, is_closed, records_of, log_bytes, lacking}
use Rattle.model.specs.Replay.{Tree, reason_of, judge, replay_from}
use Rattle.model.specs.Table.{table_bytes, work_bytes}
use Rattle.base_model.specs.Base.{Base, is_listed, empty_base, base_in, base_vector, held_on, sound_state, tree_of}
use Rattle.model.specs.Block.{block_of, block_records, given_fault}
use Rattle.model.specs.File.{header_of, block_count, file_of}

-- the number and place answered; the log left; the block, file, tree table or base lent for writing as it is left; the count of blocks
-- returned, of a fold that of the records folded
pub record Outcome : Type 0 where
  pub number : ℕ
  pub place : ℕ
  pub log : List ℕ
  pub lent : List ℕ
  pub blocks : ℕ

abbrev pub outcome : ℕ → ℕ → List ℕ → List ℕ → ℕ → Outcome
outcome n p log lent k = record { number = n; place = p; log = log; lent = lent; blocks = k }

-- a refusal at place 0: all is left as it was [F62]
abbrev pub refusal : ℕ → List ℕ → List ℕ → Outcome
refusal n log lent = outcome n 0 log lent 0

-- a refusal with the number, or the outcome if the number is 0
abbrev pub or_refused : ℕ → List ℕ → List ℕ → Outcome → Outcome
or_refused zero log lent o = o
or_refused (suc n) log lent o = refusal (suc n) log lent

-- ---- the checks that come first: `ok` says that the other lent buffers have their stated lengths, `row` that a row of blocks has its own

-- 1, 21, 2: before the state is judged
abbrev pub early_number : ℕ → List ℕ → List ℕ → Bool → Bool → ℕ
early_number u log base ok row =
    cond (eqb (length log) log_size && (eqb (length base) base_size && ok)) (cond (leb u 7) (cond row 0 bad_length) bad_unit) bad_buffer

-- 1, 21, 2, 19; or 0 [F65] [F131]
abbrev pub guard_number : ℕ → List ℕ → List ℕ → Bool → Bool → ℕ
guard_number u log base ok row = first_of (early_number u log base ok row) (cond (sound_state log base) 0 unsound_log)

-- a call without a row
unfoldable pub guarded : ℕ → List ℕ → List ℕ → List ℕ → Bool → Outcome → Outcome
guarded u log base lent ok o = or_refused (guard_number u log base ok true) log lent o

-- ---- starting

-- neither log nor base is judged; the base becomes empty, with all eight listed [F66] [F126]
unfoldable pub start_of : ℕ → List ℕ → List ℕ → Outcome
start_of u log base =
    or_refused (early_number u log base true true) log base (outcome 0 0 (replicate log_size 0) empty_base 0)

-- ---- acting

-- the wish with the next number and the held vector, folded records counted; the number 65,536 is written as the bytes 0 and 256 [F67]
unfoldable pub stamped : ℕ → List ℕ → List Rec → List ℕ → Rec
stamped u v l w = take 2 w ++ (two (suc (count_on v u l)) ++ (vector_bytes (vector_on v l) ++ drop 20 w))

-- a wish of the own unit, number and seen zero, well formed once stamped, with the next number as a plain number [F67] [F147]
unfoldable pub wish_fits : ℕ → List ℕ → List Rec → List ℕ → Bool
wish_fits u v l w = eqb (get_or w 0 0) u && (blank (part w 2 18) && well_formed (stamped u v l w))

-- the checks of a wish in their order: 7, 24; or 0. A well-formed wish without a label has zeros there [F95]
abbrev pub wish_number : ℕ → List ℕ → List Rec → List ℕ → ℕ
wish_number u v l w = first_of (cond (wish_fits u v l w) 0 malformed) (cond (has_stroke (label_of w)) stroke_in_label 0)

-- 28 where the unit has used its last number, then 11 [F147]
abbrev pub room_number : ℕ → List ℕ → List Rec → ℕ
room_number u v l = cond (ltb (count_on v u l) 65535) (cond (ltb (length l) log_places) 0 full_log) last_number

-- what comes before the replay: 26 for an unlisted own unit, then 7, 24, 28, 11; or 0 [F145]
unfoldable pub early_wish : ℕ → ℕ → List ℕ → List Rec → List ℕ → ℕ
early_wish m u v l w = first_of (cond (is_listed m u) 0 unlisted) (first_of (wish_number u v l w) (room_number u v l))

-- those, then the reason under which the record would stand aside behind the tree t of what is held; 0 if it fits [F68] [F145]
unfoldable pub act_number : ℕ → ℕ → List ℕ → Tree → List Rec → List ℕ → ℕ
act_number m u v t l w = first_of (early_wish m u v l w) (reason_of (judge (stamped u v l w) (replay_from t l)))

unfoldable pub acted : ℕ → List ℕ → List ℕ → List ℕ → ℕ → Outcome
acted u log v w n = or_refused n log [] (outcome 0 0 (log_bytes (records_of log ++ (stamped u v (records_of log) w ∷ []))) [] 0)

-- a wish, and work memory as long as a tree table
abbrev pub act_lent : List ℕ → List ℕ → Bool
act_lent w work = eqb (length w) record_size && eqb (length work) tree_size

unfoldable pub act_of : ℕ → List ℕ → List ℕ → List ℕ → List ℕ → Outcome
act_of u log base w work =
    guarded u log base [] (act_lent w work)
    (acted u log (base_vector base) w (act_number (base_in base).list u (base_vector base) (base_in base).tree (records_of log) w))

-- the work memory behind a call that answers n before its replay, with the tree t if it comes to that
abbrev pub work_after : ℕ → Tree → List ℕ → List ℕ
work_after zero t work = work_bytes t
work_after (suc n) t work = work

-- what an act leaves in the work memory: the table of the records held, if it came to the replay; then also where the wish does not fit [F152]
unfoldable pub act_work : ℕ → List ℕ → List ℕ → List ℕ → List ℕ → List ℕ
act_work u log base w work =
    work_after
    (first_of (guard_number u log base (act_lent w work) true) (early_wish (base_in base).list u (base_vector base) (records_of log) w))
    (tree_of log base)
    work

-- ---- handing out

-- the header has the held vector, folded records counted [F72] [F133]
unfoldable pub hand_block : ℕ → ℕ → List ℕ → List Rec → List ℕ → List ℕ
hand_block archive u held l v = block_of (header_of archive u 0 held) (take 6 (lacking v l))

-- 27 where the vector asked for does not cover the base vector: what it lacks may be folded [F146]
abbrev pub asked_number : List ℕ → List ℕ → ℕ
asked_number asked v = cond (covers asked v) 0 below_base

unfoldable pub handed : ℕ → ℕ → List ℕ → List ℕ → List ℕ → List ℕ → Outcome
handed archive u log base v lent =
    or_refused (asked_number v (base_vector base)) log lent
    (outcome 0 0 log (hand_block archive u (held_on log base) (records_of log) v) 0)

unfoldable pub hand_of : ℕ → ℕ → List ℕ → List ℕ → List ℕ → List ℕ → Outcome
hand_of archive u log base v lent = guarded u log base lent (eqb (length lent) block_size) (handed archive u log base v lent)

-- ---- writing a file

-- 29 where records are folded: the base vector is not all zero [F148]
abbrev pub whole_number : List ℕ → ℕ
whole_number v = cond (blank v) 0 folded_records

unfoldable pub written : ℕ → ℕ → List ℕ → List ℕ → List ℕ → Outcome
written archive u log base lent =
    or_refused (whole_number (base_vector base)) log lent
    (outcome 0 0 log (padded file_size (file_of archive u (records_of log))) (block_count (length (records_of log))))

-- [F73]
unfoldable pub write_of : ℕ → ℕ → List ℕ → List ℕ → List ℕ → Outcome
write_of archive u log base lent = guarded u log base lent (eqb (length lent) file_size) (written archive u log base lent)

-- ---- taking, into the log l behind the base vector v, with the list m

-- a refusal, or the log afterwards
pub data Took : Type 0 where
  refused : ℕ → Took
  taken : List Rec → Took

-- 27 where the seen of a new record does not cover the base vector; 11 counts records not folded [F70] [F144]
unfoldable pub take_new : List ℕ → List Rec → Rec → Took
take_new v l r =
    cond (is_next v l r && is_within v l r)
    (cond (covers (seen_vector r) v)
    (cond (is_closed v l r)
    (cond (ltb (length l) 512) (taken (insert r l)) (refused full_log))  -- 11
    (refused not_closed))  -- 9
    (refused below_base))  -- 27
    (refused not_next)  -- 8

-- a held record must be equal, a new one next
unfoldable pub take_held : List ℕ → Option Rec → List Rec → Rec → Took
take_held v none l r = take_new v l r
take_held v (some s) l r = cond (same_bytes s r) (taken l) (refused other_bytes)  -- 10

-- a record within the base vector is folded: it is passed over without comparing [F143]
unfoldable pub is_folded : List ℕ → Rec → Bool
is_folded v r = leb (num r) (get_or v (unit r) 0)

-- [F70] [F143]
unfoldable pub take_one : ℕ → List ℕ → List Rec → Rec → Took
take_one m v l r =
    cond (well_formed r)
    (cond (is_listed m (unit r))
    (cond (is_folded v r) (taken l) (take_held v (by_id (unit r) (num r) l) l r))
    (refused unlisted))  -- 26
    (refused malformed)  -- 7

-- one record after another; earlier records of the block count as held
unfoldable pub takes_all : ℕ → List ℕ → List Rec → List Rec → Took
takes_all m v l [] = taken l
takes_all m v l (r ∷ rs) = elim (take_one m v l r) [ refused n ↦ refused n | taken k ↦ takes_all m v k rs ]

-- [F71]
unfoldable pub took_all : List ℕ → Took → Outcome
took_all log (refused n) = refusal n log []
took_all log (taken m) = outcome 0 0 (log_bytes m) [] 0

unfoldable pub took_block : List ℕ → List ℕ → List ℕ → ℕ → Outcome
took_block log base b n =
    or_refused n log [] (took_all log (takes_all (base_in base).list (base_vector base) (records_of log) (block_records b)))

unfoldable pub take_of : ℕ → ℕ → List ℕ → List ℕ → List ℕ → Outcome
take_of archive u log base b = guarded u log base [] true (took_block log base b (given_fault archive b))

-- ---- showing the tree

-- no unit is given: 0 passes [F75] [F132]
unfoldable pub show_of : List ℕ → List ℕ → List ℕ → Outcome
show_of log base lent =
    guarded 0 log base lent (eqb (length lent) tree_size) (outcome 0 0 log (table_bytes (tree_of log base)) 0)
