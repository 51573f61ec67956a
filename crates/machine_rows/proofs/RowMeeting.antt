-- A meeting by rows is a meeting by single blocks.
-- Assumes nothing.
use Prim.Native.Nat.{ℕ, zero, suc, ◌+◌, ◌-◌, ◌*◌, ◌/◌, ◌%◌, ◌≤◌, ◌<◌}
use native.Mathlib.Omega.{arith}
use mathlib.Core.Bool.{true}
use mathlib.Core.Path.{◌≡◌, refl, sym, ap, ◌∙◌}
use mathlib.Core.List.{List, [], append-nil}
use lib.ListN.{length, take, drop, replicate, length-replicate}
use lib.Seq.{take_at}
use borrow.Author.Tests.{eq-eqb, le-leb}
use Rattle.model.specs.Vector.{blocks_for}
use Rattle.model.specs.Bytes.{padded}
use Rattle.model.specs.Record.{Rec}
use Rattle.model.specs.Log.{records_of, lacking}
use Rattle.model.specs.File.{blocks_in, block_at}
use Rattle.base_model.specs.Base.{base_vector, held_on}
use Rattle.call_model.specs.Outcome.{Outcome, outcome, hand_block, hand_of, take_of}
use Rattle.log_laws.specs.Members.{Agree}
use Rattle.log_laws.proofs.Lacking.{has_lacking}
use Rattle.block_laws.proofs.Fields.{Sized}
use Rattle.encoding_laws.proofs.Logs.{Proper, sound_proper_on, proper_sized}
use Rattle.call_laws.proofs.States.{good_records}
use Rattle.call_laws.proofs.Given.{handedOut, hand_done}
use Rattle.row_model.specs.Row.{Tried, tried, row_fits, try_from, try_all, RowTaken, row_taken, take_row_of, row_block, row_to, row_of}
use Rattle.row_laws.proofs.Turns.{row-passes}
use Rattle.row_laws.proofs.Raised.{length-row_to, block_of_row}
use Rattle.row_laws.proofs.Handing.{hand_row_done}
use Rattle.machine.specs.Meeting.{Store, with_log, held_by, vector_by, Whole, lacked_by, handed, round, meet, Meets, Open}
use Rattle.machine.proofs.Meeting.{Met, meets, first_met, every_meeting}
use Rattle.machine_rows.specs.RowMeeting.{row_handed, row_round, RowMeets, EveryRowMeeting}

-- the base is only read
meet_is : (archive a b : ℕ) (sa sb : Store) (n : ℕ) → meet archive a b sa sb n ≡ with_log sb (meet archive a b sa sb n).log
unfolding meet
meet_is archive a b sa sb zero = refl
meet_is archive a b sa sb (suc n) = ap (λ (s : Store). with_log s (round archive a b sa (meet archive a b sa sb n)).log) (meet_is archive a b sa sb n)

module _ (archive a b : ℕ) (sa sb : Store) (ha : a < 8) (hb : b < 8) (wa : Whole sa) (wb : Whole sb) (ag : Agree (held_by sa) (held_by sb)) (ok : Open sa sb)
    (fits : length (lacked_by sa sb) + length (records_of sb.log) ≤ 512) where
  met : Meets archive a b sa sb
  met = every_meeting archive a b sa sb ha hb wa wb ag ok fits

  after : (k : ℕ) → Met archive a b sa ha hb wa (meet archive a b sa sb k)
  after k = (meets archive a b sa ha hb wa k sb (first_met archive a b sa sb ha hb wa wb ag ok fits)).0

  held : List ℕ
  held = held_on sa.log sa.base

  w : List Rec
  w = lacked_by sa sb

  n : ℕ
  n = blocks_for (length w)

  sized : Sized w
  unfolding w lacked_by
  sized =
      let l : List Rec = records_of sa.log in
      let p : Proper l = sound_proper_on (base_vector sa.base) l (good_records sa.log sa.base wa.good) in
      proper_sized (lacking (vector_by sb) l) (λ r i. p r (has_lacking (vector_by sb) l r i))

  row : List ℕ
  row = row_to archive a held w n

  long : length row ≡ 512 * n
  unfolding row
  long = length-row_to archive a held w sized n

  handed_is : row_handed archive a sa sb ≡ outcome 0 0 sa.log (padded 44032 row) n
  unfolding row_handed row_of row n w held lacked_by
  handed_is = hand_row_done archive a sa.log sa.base (vector_by sb) (replicate 44032 0) (length-replicate {A = ℕ} 44032 0) (omega arith) wa.good ok.above

  -- the blocks of the row alone
  cut : take (512 * n) (padded 44032 row) ≡ row
  unfolding padded
  cut = take_at row (replicate (44032 - length row) 0) (512 * n) long

  counted : blocks_in row ≡ n
  unfolding blocks_in
  counted = omega (arith, long)

  few : n ≤ 86
  unfolding n blocks_for w
  few = omega arith

  right-length : row_fits (length row) ≡ true
  unfolding row_fits
  right-length =
      let a : length row % 512 ≡ 0 = omega (arith, long) in
      let b : length row / 512 ≤ 86 = omega (arith, long, few) in
      rw (eq-eqb (length row % 512) 0 a, le-leb (length row / 512) 86 b)

  left : (k : ℕ) → lacking (vector_by (meet archive a b sa sb k)) (records_of sa.log) ≡ drop (6 * k) w
  unfolding w lacked_by
  left k = met.left k

  at : (k : ℕ) → k < n → block_at row k ≡ row_block archive a held w k
  unfolding row
  at k h = rw (append-nil (row_to archive a held w n)) at (block_of_row archive a held w sized n k [] h)

  -- block k is what is handed out to b after k rounds
  same_block : (k : ℕ) → k < n → block_at row k ≡ (handed archive a sa (meet archive a b sa sb k)).lent
  unfolding handed hand_block row_block held
  same_block k h =
      let v : List ℕ = vector_by (meet archive a b sa sb k) in
      let p : hand_of archive a sa.log sa.base v (replicate 512 0) ≡ handedOut archive a sa.log sa.base v (replicate 512 0) =
      hand_done archive a sa.log sa.base v (replicate 512 0) (length-replicate {A = ℕ} 512 0) (omega arith) wa.good (after k).above in
      at k h ∙ rw (p, left k)

  same_take : (k : ℕ) → k < n → take_of archive b (meet archive a b sa sb k).log sb.base (block_at row k) ≡ round archive a b sa (meet archive a b sa sb k)
  unfolding round
  same_take k h =
      ap (take_of archive b (meet archive a b sa sb k).log sb.base) (same_block k h)
      ∙ ap (λ (s : Store). take_of archive b (meet archive a b sa sb k).log s.base (handed archive a sa (meet archive a b sa sb k)).lent) (sym (meet_is archive a b sa sb k))

  -- the turns from block k on
  turns : (j k : ℕ) → k + j ≡ n → try_from archive b sb.base row (meet archive a b sa sb k).log k j ≡ tried n 0 (meet archive a b sa sb n).log
  unfolding try_from meet
  turns zero k e = let f : k ≡ n = omega arith in rw f
  turns (suc j) k e =
      let s = same_take k (omega arith) in
      let z : (take_of archive b (meet archive a b sa sb k).log sb.base (block_at row k)).number ≡ 0 = ap (λ (o : Outcome). o.number) s ∙ met.taking k in
      let l : (take_of archive b (meet archive a b sa sb k).log sb.base (block_at row k)).log ≡ (meet archive a b sa sb (suc k)).log = ap (λ (o : Outcome). o.log) s in
      rw (z, l) (turns j (suc k) (omega arith))

  taken_all : try_all archive b sb.log sb.base row ≡ tried n 0 (meet archive a b sa sb n).log
  unfolding try_all meet
  taken_all = rw counted (turns n 0 (omega arith))

  -- what is taken is the row
  taken_is : take (512 * (row_handed archive a sa sb).blocks) (row_handed archive a sa sb).lent ≡ row
  taken_is = rw handed_is cut

  taken_row : row_round archive a b sa sb ≡ row_taken 0 0 n 0 (meet archive a b sa sb n).log
  unfolding row_round
  taken_row =
      ap (λ (x : List ℕ). take_row_of archive b sb.log sb.base x) taken_is
      ∙ row-passes archive b sb.log sb.base row (omega arith) wb.good right-length
      ∙ ap (λ (t : Tried). row_taken 0 0 t.taken t.stopped t.log) taken_all

  all_passed : lacked_by sa (with_log sb (meet archive a b sa sb n).log) ≡ []
  unfolding n blocks_for w
  all_passed = ap (lacked_by sa) (sym (meet_is archive a b sa sb n)) ∙ (met.exactly n).1 (omega arith)

  pub row_meets : RowMeets archive a b sa sb
  row_meets =
      record {
        handing = ap (λ (o : Outcome). o.number) handed_is;
        taking = taken_row ∙ ap (λ (o : Outcome). row_taken 0 0 o.blocks 0 (meet archive a b sa sb o.blocks).log) (sym handed_is);
        nothing = ap (λ (t : RowTaken). lacked_by sa (with_log sb t.log)) taken_row ∙ all_passed;
      }

pub every_row_meeting : EveryRowMeeting
every_row_meeting archive a b sa sb ha hb wa wb ag ok fits = row_meets archive a b sa sb ha hb wa wb ag ok fits
