-- Request K11: the SAB2 file and the way back, sentence by sentence. A good state is a log and a base of their lengths that are sound together.
-- Assumes nothing.
use Prim.Native.Nat.{ℕ, ◌+◌, ◌*◌, ◌/◌, ◌%◌, ◌≤◌, ◌<◌}
use mathlib.Core.Path.{◌≡◌, sym, ap, ◌∙◌}
use mathlib.Core.Logic.{◌↔◌}
use mathlib.Core.Bool.{true, false, cond}
use mathlib.Core.List.{List, []}
use lib.ListN.{get_or, length, take, set, replicate, length-replicate}
use Rattle.model.specs.Bytes.{blank, part, padded}
use Rattle.model.specs.Vector.{blocks_for}
use Rattle.model.specs.Record.{Rec}
use Rattle.model.specs.Log.{no_counts, records_of, log_bytes}
use Rattle.model.specs.Replay.{empty_tree, replay_from}
use Rattle.model.specs.Block.{archive_in, sender_in, given_fault}
use Rattle.model.specs.File.{blocks_in, block_at, file_length, Fault, fault, checked_fault}
use Rattle.model.specs.Merge.{merged, merge_of}
use Rattle.base_model.specs.Base.{base_vector, base_tree, base_in, held_on, tree_of}
use Rattle.call_model.specs.Outcome.{outcome}
use Rattle.call_model.specs.Read.{ReadBack, read_of}
use Rattle.run_model.specs.Runs.{letters2, block_fault_as}
use Rattle.sab2_model.specs.Rows.{base_rows}
use Rattle.sab2_model.specs.Sab2.{sab2_of, sab2_blocks, sab2_fits, sab2_blocks_fault, sab2_rows, sab2_base, sab2_records, base_stands, rows_stand, checked_sab2, is_sab2, either_fault}
use Rattle.sab2_model.specs.Calls.{write_sab2_of, read_either_of, converted, as_sab2, to_sab2_of, as_sab1, to_sab1_of}
use Rattle.block_laws.proofs.Fields.{Sized}
use Rattle.call_laws.specs.Keeps.{Good, Keeps, Reads}
use Rattle.call_laws.proofs.States.{sound_back_on}
use Rattle.sab2_row_laws.specs.LaidOut.{LaidOut}
use Rattle.sab2_laws.specs.Listed.{Listed}
use Rattle.sab2_laws.proofs.Counts.{too_long}
use Rattle.sab2_laws.proofs.Written as Written
use Rattle.sab2_laws.proofs.Rewritten as Rewritten
use Rattle.sab2_laws.proofs.Forms as Forms
use Rattle.sab2_laws.proofs.Numbers as Numbers
use Rattle.sab2_laws.proofs.Ways as Ways
use Rattle.sab2_laws.proofs.Empty as Empty
use Rattle.sab2_laws.proofs.Altered as Altered
use Rattle.sab2_laws.proofs.Calls as Calls
use Rattle.sab2_laws.proofs.Listing as Listing

-- every element is a byte
abbrev pub Bytes : List ℕ → Type 0
Bytes f = (j : ℕ) → get_or f j 0 < 256

-- ---- blocks of the same length and sums, letters SAB2; list and base first, then the records

module _ (archive u : ℕ) (log base : List ℕ) (g : Good log base) (u7 : u ≤ 7) where
  -- the file of a state has 1 to 186 blocks of 512 bytes
  pub sab2_one_to_186_blocks : (length (sab2_of archive u base (records_of log)) ≡ 512 * sab2_blocks base (records_of log))
      × (1 ≤ sab2_blocks base (records_of log)) × (sab2_blocks base (records_of log) ≤ 186)
  sab2_one_to_186_blocks =
      let (a, b) = Written.state_1_186 archive u log base g u7 in
      (Written.state_bytes archive u log base g u7, a, b)

  -- in each of them letters, sums and header are right
  pub sab2_blocks_right : (k : ℕ) → k < sab2_blocks base (records_of log) → block_fault_as letters2 (block_at (sab2_of archive u base (records_of log)) k) ≡ 0
  sab2_blocks_right = Written.state_block archive u log base g u7

  -- row i of list and base stands in place i % 6 of block i / 6
  pub sab2_row_stands : (i : ℕ) → i < length (base_rows base) → part (sab2_of archive u base (records_of log)) (512 * (i / 6) + (28 + 80 * (i % 6))) 80 ≡ get_or (base_rows base) i []
  sab2_row_stands = Written.state_row archive u log base g u7

  -- record j in place j % 6 of the block j / 6 behind those of the rows
  pub sab2_record_stands : (j : ℕ) → j < length (records_of log)
      → part (sab2_of archive u base (records_of log)) (512 * (blocks_for (length (base_rows base)) + j / 6) + (28 + 80 * (j % 6))) 80 ≡ get_or (records_of log) j []
  sab2_record_stands = Written.state_record archive u log base g u7

  -- ---- each state has one file, which reads back as that state

  pub sab2_written_then_read : (spare spareBase : List ℕ) → length spare ≡ 40960 → length spareBase ≡ 43032
      → read_either_of spare spareBase (sab2_of archive u base (records_of log))
      ≡ record { number = 0; place = 0; archive = archive; sender = u; records = length (records_of log); vector = held_on log base; log = log; base = base }
  sab2_written_then_read = Written.read_is archive u log base g u7

-- equal files are of equal states
pub one_file : (archive other u v : ℕ) (log base log' base' : List ℕ) → Good log base → Good log' base' → u ≤ 7 → v ≤ 7
    → sab2_of archive u base (records_of log) ≡ sab2_of other v base' (records_of log') → (archive ≡ other) × (u ≡ v) × (log ≡ log') × (base ≡ base')
one_file archive other u v log base log' base' g g' u7 v7 e =
    let n = length-replicate {A = ℕ} 40960 0 in
    let m = length-replicate {A = ℕ} 43032 0 in
    let s : List ℕ = replicate 40960 0 in
    let t : List ℕ = replicate 43032 0 in
    let x =
    sym (sab2_written_then_read archive u log base g u7 s t n m)
    ∙ ap (λ (f : List ℕ). read_either_of s t f) e
    ∙ sab2_written_then_read other v log' base' g' v7 s t n m in
    (ap (λ (r : ReadBack). r.archive) x, ap (λ (r : ReadBack). r.sender) x, ap (λ (r : ReadBack). r.log) x, ap (λ (r : ReadBack). r.base) x)

-- ---- demand 2: read back as written, written again the same bytes, the tree of the replay

-- what a call has written reads back, into any lent log and base, as that state
pub sab2_call_written_then_read : (archive u : ℕ) (log base lent spare spareBase : List ℕ) → (write_sab2_of archive u log base lent).number ≡ 0 → length spare ≡ 40960 → length spareBase ≡ 43032
    → read_either_of spare spareBase (take (512 * (write_sab2_of archive u log base lent).blocks) (write_sab2_of archive u log base lent).lent)
    ≡ record { number = 0; place = 0; archive = archive; sender = u; records = length (records_of log); vector = held_on log base; log = log; base = base }
sab2_call_written_then_read = Calls.call_written_then_read

-- an accepted SAB2 file is the file of the list, base and records that it holds, under its own archive and unit
pub sab2_read_then_written : (f : List ℕ) → Bytes f → is_sab2 f ≡ true → (either_fault f).number ≡ 0
    → sab2_of (archive_in (block_at f 0)) (sender_in (block_at f 0)) (sab2_base f) (sab2_records f) ≡ f
sab2_read_then_written f g s e = Rewritten.file_again f (rw (Forms.sab2_fault_lem f s) at e) g

-- and so by the calls: the file, and zeros behind it
pub sab2_call_read_then_written : (spare spareBase f lent : List ℕ) → Bytes f → is_sab2 f ≡ true → (read_either_of spare spareBase f).number ≡ 0 → length lent ≡ 95232
    → write_sab2_of (read_either_of spare spareBase f).archive (read_either_of spare spareBase f).sender (read_either_of spare spareBase f).log (read_either_of spare spareBase f).base lent
    ≡ outcome 0 0 (read_either_of spare spareBase f).log (padded 95232 f) (blocks_in f)
sab2_call_read_then_written = Calls.call_read_then_written

-- the state that a file holds is good, and its tree is the replay of its records from its base
pub sab2_holds_a_state : (f : List ℕ) → is_sab2 f ≡ true → (either_fault f).number ≡ 0
    → Good (log_bytes (sab2_records f)) (sab2_base f) × (tree_of (log_bytes (sab2_records f)) (sab2_base f) ≡ replay_from (base_tree (sab2_base f)) (sab2_records f))
unfolding tree_of
sab2_holds_a_state f s e =
    let c = rw (Forms.sab2_fault_lem f s) at e in
    let l : List Rec = sab2_records f in
    (Rewritten.state f c, ap (replay_from (base_tree (sab2_base f))) (sound_back_on (base_vector (sab2_base f)) l (Rewritten.records_sound f c) (Rewritten.records_few f c)))

-- reading a file of either form leaves a good state, or log and base as they were
pub read_either_keeps : (log base f : List ℕ) → Reads log base (read_either_of log base f)
read_either_keeps = Calls.read_either_keeps

-- writing only reads log and base, and a refusal leaves the lent bytes
pub write_sab2_keeps : (archive u : ℕ) (log base lent : List ℕ) → Keeps log base lent (write_sab2_of archive u log base lent)
write_sab2_keeps = Calls.write_keeps

-- ---- an SAB1 file becomes SAB2 with an empty base, and back again gives the same bytes

pub sab1_there_and_back : (f lent spare : List ℕ) → Bytes f → (checked_fault f).number ≡ 0 → length lent ≡ 95232 → length spare ≡ 44032
    → to_sab1_of (take (512 * (to_sab2_of f lent).blocks) (to_sab2_of f lent).lent) spare ≡ converted 0 0 (blocks_in f) (padded 44032 f)
sab1_there_and_back f lent spare g e n m = Ways.there_and_back f e g lent spare n m

-- it reads as it did: the same archive, unit and log, an empty base, all eight listed
pub sab1_as_sab2_reads : (f spare spareBase : List ℕ) → (checked_fault f).number ≡ 0 → length spare ≡ 40960 → length spareBase ≡ 43032
    → read_either_of spare spareBase (as_sab2 f) ≡ read_of spare spareBase f
sab1_as_sab2_reads f spare spareBase e n m = Ways.up_reads f e spare spareBase n m ∙ Forms.sab1_read spare spareBase f (Ways.is_sab1 f e)

-- ---- the reading program accepts both and counts unfolded records

-- the listing of an accepted file is that of the state which reading it leaves: as many records as its log has, the held vector, the tree of the
-- replay from the base
pub listing_of_either_form : (f : List ℕ) → (either_fault f).number ≡ 0 → Listed f
listing_of_either_form = Listing.listed

-- ---- the greatest length; a longer file gives 2

pub longer_gives_2 : (f : List ℕ) → is_sab2 f ≡ true → 95232 < length f → either_fault f ≡ fault 2 0
unfolding checked_sab2
longer_gives_2 f s h = Forms.sab2_fault_lem f s ∙ rw (too_long (length f) h)

-- ---- the first four bytes choose the form, SAB1 if neither

pub sab2_chosen : (f : List ℕ) → is_sab2 f ≡ true → either_fault f ≡ checked_sab2 f
sab2_chosen = Forms.sab2_fault_lem

pub sab1_if_neither : (f : List ℕ) → is_sab2 f ≡ false → (either_fault f ≡ checked_fault f) × ((log base : List ℕ) → read_either_of log base f ≡ read_of log base f)
sab1_if_neither f s = (Forms.sab1_fault f s, λ log base. Forms.sab1_read log base f s)

-- also a file too short for four letters
pub short_is_sab1 : (f : List ℕ) → length f < 4 → is_sab2 f ≡ false
short_is_sab1 = Forms.short_begins

-- an accepted file is of the form that its letters say
pub accepted_sab1_is_sab1 : (f : List ℕ) → (checked_fault f).number ≡ 0 → is_sab2 f ≡ false
accepted_sab1_is_sab1 f e = Ways.is_sab1 f e

-- ---- K1 accepts SAB1 only, a conversion only its starting form: 3 at place 0, or 2 for a length that the form has not

pub merge_refuses_sab2 : (f g log lent : List ℕ) → length log ≡ 40960 → length lent ≡ 44032
    → (is_sab2 f ≡ true → merge_of f g log lent ≡ merged (cond (file_length f) 3 2) 0 1 0 log lent)
    × ((checked_fault f).number ≡ 0 → is_sab2 g ≡ true → merge_of f g log lent ≡ merged (cond (file_length g) 3 2) 0 2 0 log lent)
merge_refuses_sab2 f g log lent n m = (
  λ s. Forms.merge_first f g log lent s n m ∙ ap (λ (k : ℕ). merged k 0 1 0 log lent) (Forms.form_number (file_length f)),
  λ e s. Forms.merge_second f g log lent e s n m ∙ ap (λ (k : ℕ). merged k 0 2 0 log lent) (Forms.form_number (file_length g)),
)

pub conversions_refuse_the_other_form : (f lent spare : List ℕ) → length lent ≡ 95232 → length spare ≡ 44032
    → (is_sab2 f ≡ true → to_sab2_of f lent ≡ converted (cond (file_length f) 3 2) 0 0 lent)
    × (is_sab2 f ≡ false → to_sab1_of f spare ≡ converted (cond (sab2_fits (length f)) 3 2) 0 0 spare)
conversions_refuse_the_other_form f lent spare n m = (
  λ s. Forms.up_refuses f lent s n ∙ ap (λ (k : ℕ). converted k 0 0 lent) (Forms.form_number (file_length f)),
  λ s. Forms.back_refuses f spare s m ∙ ap (λ (k : ℕ). converted k 0 0 spare) (Forms.form_number (sab2_fits (length f))),
)

-- and a block of SAB2 is not taken
pub sab2_block_is_not_taken : (archive : ℕ) (b : List ℕ) → length b ≡ 512 → is_sab2 b ≡ true → given_fault archive b ≡ 3
sab2_block_is_not_taken = Forms.sab2_block_given

-- ---- 29 exactly when the way back is asked of a file whose base vector is not all zero, after all file checks

pub back_29_exactly : (f lent : List ℕ) → length lent ≡ 44032
    → ((to_sab1_of f lent).number ≡ 29) ↔ (((checked_sab2 f).number ≡ 0) × (blank (base_vector (sab2_base f)) ≡ false))
unfolding fault
back_29_exactly f lent n = (
  λ e. Numbers.only_29 f (sym (Numbers.back_number f lent n) ∙ e),
  λ (a, b). Numbers.back_number f lent n ∙ ap (λ (x : Fault). x.number) (Numbers.way_29 f a b),
)

-- of another file only the list is lost: its base is empty but for that, and its records are written and read back
pub back_loses_only_the_list : (f lent spare spareBase : List ℕ) → (checked_sab2 f).number ≡ 0 → blank (base_vector (sab2_base f)) ≡ true
    → length lent ≡ 44032 → length spare ≡ 40960 → length spareBase ≡ 43032
    → ((to_sab1_of f lent).lent ≡ padded 44032 (as_sab1 f))
    × ((read_either_of spare spareBase (as_sab1 f)).log ≡ log_bytes (sab2_records f))
    × (base_in (sab2_base f) ≡ record { list = get_or (sab2_base f) 0 0; vector = no_counts; tree = empty_tree })
back_loses_only_the_list f lent spare spareBase e b n m k = (
  ap (λ c. c.lent) (Empty.back_done f e b lent n),
  ap (λ (r : ReadBack). r.log) (Empty.back_reads f e b spare spareBase m k),
  Empty.base_empty f e b,
)

-- ---- 31 after the block checks and before the records, at place 0, for a list or base that breaks the layout or that K10 answers with 19

pub base_31_exactly : (f : List ℕ)
    → ((either_fault f).number ≡ 31) ↔ ((is_sab2 f ≡ true) × (sab2_fits (length f) ≡ true) × ((sab2_blocks_fault f).number ≡ 0) × (rows_stand (sab2_rows f) ≡ false))
unfolding fault
base_31_exactly f = (
  λ e. Numbers.either_31 f e,
  λ (s, a, b, c). ap (λ (x : Fault). x.number) (Forms.sab2_fault_lem f s ∙ Numbers.unsound_31 f a b c),
)

pub base_31_at_0 : (f : List ℕ) → (either_fault f).number ≡ 31 → either_fault f ≡ fault 31 0
base_31_at_0 f e = let (s, a, b, c) = Numbers.either_31 f e in Forms.sab2_fault_lem f s ∙ Numbers.unsound_31 f a b c

-- a base that is laid out and is not sound, or whose list leaves out a unit that it counts, is 31 in a file, whatever the records
pub unsound_base_gives_31 : (archive u : ℕ) (base : List ℕ) (l : List Rec) → LaidOut base → Sized l → length l ≤ 512 → u ≤ 7 → base_stands base ≡ false
    → either_fault (sab2_of archive u base l) ≡ fault 31 0
unsound_base_gives_31 archive u base l b z m k s = Written.unsound_31 archive u base l b z m k s

-- a sound state never is
pub sound_state_gives_none : (archive u : ℕ) (log base : List ℕ) → Good log base → u ≤ 7 → either_fault (sab2_of archive u base (records_of log)) ≡ fault 0 0
sound_state_gives_none archive u log base g k = Written.either_faultless archive u log base g k

-- ---- a changed single byte of an accepted file of either form is refused

pub altered_file_is_refused : (f : List ℕ) (i z : ℕ) → Bytes f → (either_fault f).number ≡ 0 → i < length f → z < 256 → (get_or f i 0 ≡ z → ⊥) → (either_fault (set f i z)).number ≡ 0 → ⊥
altered_file_is_refused = Altered.altered_refused
