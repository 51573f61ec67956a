-- The SAB2 file of rows and records is read back as these rows and records. That of a sound state is accepted, and read back as that state.
-- Assumes nothing.
use Prim.Native.Nat.{ℕ, ◌+◌, ◌*◌, ◌/◌, ◌%◌, ◌≤◌, ◌<◌}
use native.Mathlib.Omega.{arith}
use mathlib.Core.Path.{◌≡◌, refl}
use mathlib.Core.Logic.{inl, inr, ⊎_elim}
use mathlib.Core.Bool.{true, false}
use mathlib.Core.List.{List, [], ◌++◌, append-nil}
use lib.ListN.{get_or, length, drop}
use borrow.Author.Tests.{eq-eqb}
use Rattle.model.specs.Bytes.{part}
use Rattle.model.specs.Vector.{blocks_for}
use Rattle.model.specs.Record.{Rec}
use Rattle.model.specs.Log.{vector_on, records_of}
use Rattle.model.specs.Block.{Header, archive_in, sender_in, vector_in}
use Rattle.model.specs.File.{header_of, blocks_in, block_at, fault, or_else, file_record}
use Rattle.base_model.specs.Base.{lists_all, base_vector, base_in, sound_base, held_on}
use Rattle.run_model.specs.Runs.{letters2, block_fault_as, behind, run_to, run_blocks}
use Rattle.sab2_model.specs.Rows.{rows_said, base_rows, base_from, rows_hold}
use Rattle.sab2_model.specs.Sab2.{sab2_from, sab2_of, sab2_blocks, sab2_fits, said_rows, row_blocks, sab2_blocks_fault, sab2_rows, sab2_base, record_part, sab2_counted, sab2_records, base_stands, rows_stand, sab2_fault, checked_sab2, is_sab2, either_fault}
use Rattle.sab2_model.specs.Calls.{read_sab2, read_either, read_either_of}
use Rattle.byte_slice.proofs.Numbers.{true_and, and_wrong}
use Rattle.byte_slice.proofs.Parts.{part-behind}
use Rattle.block_laws.proofs.Fields.{Sized}
use Rattle.log_laws.proofs.Tests.{vector_on-length, vector_on_get_d, means_sound_on}
use Rattle.run_laws.specs.Fits.{Holds}
use Rattle.run_laws.proofs.Runs.{run_length, run_row}
use Rattle.run_laws.proofs.Passed.{begins_with}
use Rattle.run_laws.proofs.Written as Runs
use Rattle.encoding_laws.proofs.Logs.{sound_proper_on, proper_sized, sound_few, sound_bytes_on}
use Rattle.held_laws.proofs.Records.{sound_faultless}
use Rattle.held_laws.proofs.Held.{held-right, held_31}
use Rattle.call_laws.specs.Keeps.{Good}
use Rattle.call_laws.proofs.States.{lists_at, all_lists, good_base, good_log, good_records, good_lists, good_listed}
use Rattle.sab2_row_laws.specs.LaidOut.{LaidOut}
use Rattle.sab2_row_laws.proofs.Bases.{sound_laid, rows_said_lem, few_rows, rows_sized, rows_hold_lem, base_of_rows, row_count_lem}
use Rattle.sab2_laws.proofs.Counts.{for_holds, few_row_blocks, few_record_blocks, some_said, fits_test}

-- ---- rows and records, whether they are sound or not

module _ (archive u : ℕ) (v : List ℕ) (rows l : List Rec) (y : Sized rows) (z : Sized l) (said : rows_said (get_or rows 0 []) ≡ length rows) (few : length rows ≤ 599) (room : length l ≤ 512)
    (u7 : u ≤ 7) (v8 : length v ≡ 8) where
  abbrev h : Header
  h = header_of archive u 0 v

  abbrev p : ℕ
  p = blocks_for (length rows)

  abbrev q : ℕ
  q = blocks_for (length l)

  abbrev run : List ℕ
  run = run_to letters2 h rows p ++ run_to letters2 (behind h p) l q

  file_is : sab2_from (header_of archive u 0 v) rows l ≡ run
  unfolding sab2_from run_blocks
  file_is = refl

  some_rows : 1 ≤ length rows
  some_rows = omega (arith, some_said (get_or rows 0 []))

  holds : Holds (length rows) (length l) q
  holds = for_holds (length rows) (length l) some_rows

  h0 : h.place ≡ 0
  unfolding header_of
  h0 = refl

  h7 : h.sender ≤ 7
  unfolding header_of
  h7 = u7

  h8 : length h.vector ≡ 8
  unfolding header_of
  h8 = v8

  abbrev pub file : List ℕ
  file = sab2_from (header_of archive u 0 v) rows l

  -- ---- its length

  pub file_bytes : length file ≡ 512 * (blocks_for (length rows) + blocks_for (length l))
  file_bytes = rw file_is (Runs.file_bytes letters2 refl h h0 h7 h8 rows l y z q holds)

  pub blocks_1_186 : (1 ≤ blocks_for (length rows) + blocks_for (length l)) × (blocks_for (length rows) + blocks_for (length l) ≤ 186)
  blocks_1_186 = let (a, b) = few_row_blocks (length rows) some_rows few in (omega arith, omega (arith, few_record_blocks (length l) room))

  pub length_fits : sab2_fits (length file) ≡ true
  length_fits = fits_test (length file) (p + q) file_bytes blocks_1_186.0 blocks_1_186.1

  -- ---- its blocks

  -- each has the letters SAB2, right sums and a right header
  pub block_good : (k : ℕ) → k < blocks_for (length rows) + blocks_for (length l) → block_fault_as letters2 (block_at file k) ≡ 0
  block_good k b = rw file_is (Runs.agreeing letters2 refl h h0 h7 h8 rows l y z q holds k b).good

  pub chosen : is_sab2 file ≡ true
  unfolding is_sab2
  chosen = begins_with letters2 file (block_good 0 blocks_1_186.0)

  -- where row i stands
  pub row_stands : (i : ℕ) → i < length rows → part file (512 * (i / 6) + (28 + 80 * (i % 6))) 80 ≡ get_or rows i []
  unfolding file_record
  row_stands i b = rw file_is (Runs.row_read letters2 refl h h0 h7 h8 rows l y z q holds i b)

  -- and record j
  pub record_stands : (j : ℕ) → j < length l → part file (512 * (blocks_for (length rows) + j / 6) + (28 + 80 * (j % 6))) 80 ≡ get_or l j []
  unfolding file_record
  record_stands j b =
      let front : List ℕ = run_to letters2 h rows p in
      let n : length front ≡ 512 * p = run_length letters2 refl h rows y p in
      let e : 512 * (p + j / 6) + (28 + 80 * (j % 6)) ≡ length front + (512 * (j / 6) + (28 + 80 * (j % 6))) = omega arith in
      rw (file_is, e, part-behind front (run_to letters2 (behind h p) l q) (512 * (j / 6) + (28 + 80 * (j % 6))) 80)
      (rw append-nil at (run_row letters2 refl (behind h p) l z q [] holds.all j b))

  said_is : said_rows file ≡ length rows
  unfolding said_rows
  said_is = rw (file_is, Runs.row_read letters2 refl h h0 h7 h8 rows l y z q holds 0 some_rows) said

  pub blocks_pass : sab2_blocks_fault file ≡ fault 0 0
  unfolding sab2_blocks_fault
  blocks_pass = rw (said_is, file_is) (Runs.blocks_pass letters2 refl h h0 h7 h8 rows l y z q holds)

  -- ---- what they hold

  pub archive_read : archive_in (block_at file 0) ≡ archive
  unfolding header_of
  archive_read = rw file_is (Runs.archive_read letters2 refl h h0 h7 h8 rows l y z q holds)

  pub sender_read : sender_in (block_at file 0) ≡ u
  unfolding header_of
  sender_read = rw file_is (Runs.sender_read letters2 refl h h0 h7 h8 rows l y z q holds)

  pub vector_read : vector_in (block_at file 0) ≡ v
  unfolding header_of
  vector_read = rw file_is (Runs.vector_read letters2 refl h h0 h7 h8 rows l y z q holds)

  pub rows_read : sab2_rows file ≡ rows
  unfolding sab2_rows
  rows_read = rw (said_is, file_is) (Runs.rows_read letters2 refl h h0 h7 h8 rows l y z q holds)

  part_read : record_part file ≡ drop (512 * p) file
  unfolding record_part row_blocks
  part_read = rw said_is

  pub count_read : sab2_counted file ≡ length l
  unfolding sab2_counted
  count_read = rw (part_read, file_is) (Runs.count_read letters2 refl h h0 h7 h8 rows l y z q holds)

  pub records_read : sab2_records file ≡ l
  unfolding sab2_records
  records_read = rw (part_read, file_is) (Runs.records_read letters2 refl h h0 h7 h8 rows l y z q holds)

  -- rows that do not stand are 31, whatever the records
  pub rows_31 : rows_stand rows ≡ false → checked_sab2 file ≡ fault 31 0
  unfolding checked_sab2 sab2_fault or_else fault
  rows_31 s = rw (length_fits, blocks_pass, rows_read, s) (held_31 (sab2_base file) (row_blocks file) (blocks_in file) (vector_in (block_at file 0)) (sab2_records file))

-- so is a base that is laid out and does not stand
pub unsound_31 : (archive u : ℕ) (base : List ℕ) (l : List Rec) → LaidOut base → Sized l → length l ≤ 512 → u ≤ 7 → base_stands base ≡ false
    → either_fault (sab2_of archive u base l) ≡ fault 31 0
unfolding sab2_of either_fault rows_stand
unsound_31 archive u base l b z m k s =
    let v : List ℕ = vector_on (base_vector base) l in
    let eight : length v ≡ 8 = vector_on-length (base_vector base) l in
    let bad : rows_stand (base_rows base) ≡ false = rw (base_of_rows base b, s) (and_wrong (rows_hold (base_rows base))) in
    rw (chosen archive u v (base_rows base) l (rows_sized base b) z (rows_said_lem base b) (few_rows base b) m k eight)
    (rows_31 archive u v (base_rows base) l (rows_sized base b) z (rows_said_lem base b) (few_rows base b) m k eight bad)

-- ---- the file of a state

-- a list that names each unit of the held vector names each of the base vector
pub base_listed : (m : ℕ) (v : List ℕ) (l : List Rec) → lists_all m (vector_on v l) ≡ true → lists_all m v ≡ true
base_listed m v l e =
    all_lists m v (λ u k. ⊎_elim (λ (z : get_or (vector_on v l) u 0 ≡ 0). inl (omega (arith, vector_on_get_d v l u k))) (λ a. inr a) (lists_at m (vector_on v l) e u k))

module _ (archive u : ℕ) (log base : List ℕ) (g : Good log base) (u7 : u ≤ 7) where
  abbrev l : List Rec
  l = records_of log

  abbrev v : List ℕ
  v = vector_on (base_vector base) (records_of log)

  abbrev rows : List Rec
  rows = base_rows base

  abbrev pub stateFile : List ℕ
  stateFile = sab2_of archive u base (records_of log)

  laid : LaidOut base
  laid = sound_laid base g.long.1 (good_base log base g)

  rows_80 : Sized rows
  rows_80 = rows_sized base laid

  records_80 : Sized l
  records_80 = proper_sized l (sound_proper_on (base_vector base) l (good_records log base g))

  eight : length v ≡ 8
  eight = vector_on-length (base_vector base) l

  pub state_bytes : length stateFile ≡ 512 * sab2_blocks base (records_of log)
  unfolding sab2_of sab2_blocks
  state_bytes = rw (← row_count_lem base laid) (file_bytes archive u v rows l rows_80 records_80 (rows_said_lem base laid) (few_rows base laid) (sound_few log) u7 eight)

  pub state_1_186 : (1 ≤ sab2_blocks base (records_of log)) × (sab2_blocks base (records_of log) ≤ 186)
  unfolding sab2_blocks
  state_1_186 = rw (← row_count_lem base laid) (blocks_1_186 archive u v rows l rows_80 records_80 (rows_said_lem base laid) (few_rows base laid) (sound_few log) u7 eight)

  pub state_block : (k : ℕ) → k < sab2_blocks base (records_of log) → block_fault_as letters2 (block_at stateFile k) ≡ 0
  unfolding sab2_of sab2_blocks
  state_block = rw (← row_count_lem base laid) (block_good archive u v rows l rows_80 records_80 (rows_said_lem base laid) (few_rows base laid) (sound_few log) u7 eight)

  pub state_row : (i : ℕ) → i < length (base_rows base) → part stateFile (512 * (i / 6) + (28 + 80 * (i % 6))) 80 ≡ get_or (base_rows base) i []
  unfolding sab2_of
  state_row = row_stands archive u v rows l rows_80 records_80 (rows_said_lem base laid) (few_rows base laid) (sound_few log) u7 eight

  pub state_record : (j : ℕ) → j < length (records_of log) → part stateFile (512 * (blocks_for (length (base_rows base)) + j / 6) + (28 + 80 * (j % 6))) 80 ≡ get_or (records_of log) j []
  unfolding sab2_of
  state_record = record_stands archive u v rows l rows_80 records_80 (rows_said_lem base laid) (few_rows base laid) (sound_few log) u7 eight

  pub state_chosen : is_sab2 stateFile ≡ true
  unfolding sab2_of
  state_chosen = chosen archive u v rows l rows_80 records_80 (rows_said_lem base laid) (few_rows base laid) (sound_few log) u7 eight

  pub state_archive : archive_in (block_at stateFile 0) ≡ archive
  unfolding sab2_of
  state_archive = archive_read archive u v rows l rows_80 records_80 (rows_said_lem base laid) (few_rows base laid) (sound_few log) u7 eight

  pub state_sender : sender_in (block_at stateFile 0) ≡ u
  unfolding sab2_of
  state_sender = sender_read archive u v rows l rows_80 records_80 (rows_said_lem base laid) (few_rows base laid) (sound_few log) u7 eight

  pub state_vector : vector_in (block_at stateFile 0) ≡ vector_on (base_vector base) (records_of log)
  unfolding sab2_of
  state_vector = vector_read archive u v rows l rows_80 records_80 (rows_said_lem base laid) (few_rows base laid) (sound_few log) u7 eight

  state_rows : sab2_rows stateFile ≡ base_rows base
  unfolding sab2_of
  state_rows = rows_read archive u v rows l rows_80 records_80 (rows_said_lem base laid) (few_rows base laid) (sound_few log) u7 eight

  pub state_base : sab2_base stateFile ≡ base
  unfolding sab2_base
  state_base = rw state_rows (base_of_rows base laid)

  pub state_count : sab2_counted stateFile ≡ length (records_of log)
  unfolding sab2_of
  state_count = count_read archive u v rows l rows_80 records_80 (rows_said_lem base laid) (few_rows base laid) (sound_few log) u7 eight

  pub state_records : sab2_records stateFile ≡ records_of log
  unfolding sab2_of
  state_records = records_read archive u v rows l rows_80 records_80 (rows_said_lem base laid) (few_rows base laid) (sound_few log) u7 eight

  -- ---- no fault

  stands : rows_stand rows ≡ true
  unfolding rows_stand base_stands base_in
  stands =
      true_and (rows_hold rows) (base_stands (base_from rows)) (rows_hold_lem base laid)
      (rw (base_of_rows base laid)
      (true_and (lists_all (get_or base 0 0) (base_vector base)) (sound_base base) (base_listed (get_or base 0 0) (base_vector base) l (good_lists log base g)) (good_base log base g)))

  fits : sab2_fits (length stateFile) ≡ true
  unfolding sab2_of
  fits = length_fits archive u v rows l rows_80 records_80 (rows_said_lem base laid) (few_rows base laid) (sound_few log) u7 eight

  passes : sab2_blocks_fault stateFile ≡ fault 0 0
  unfolding sab2_of
  passes = blocks_pass archive u v rows l rows_80 records_80 (rows_said_lem base laid) (few_rows base laid) (sound_few log) u7 eight

  pub state_faultless : checked_sab2 stateFile ≡ fault 0 0
  unfolding checked_sab2 sab2_fault or_else fault base_in
  state_faultless =
      rw (fits, passes, state_rows, stands, state_base, state_records)
      (held-right base (row_blocks stateFile) (blocks_in stateFile) (vector_in (block_at stateFile 0)) l
      (sound_faultless (get_or base 0 0) (base_vector base) (row_blocks stateFile) l [] 0 (means_sound_on (base_vector base) l (good_records log base g)) (good_listed log base g) (omega (arith, sound_few log)))
      state_vector)

  pub either_faultless : either_fault stateFile ≡ fault 0 0
  unfolding either_fault
  either_faultless = rw state_chosen state_faultless

  -- ---- it reads back

  pub read_is : (spare spareBase : List ℕ) → length spare ≡ 40960 → length spareBase ≡ 43032
      → read_either_of spare spareBase (sab2_of archive u base (records_of log))
      ≡ record { number = 0; place = 0; archive = archive; sender = u; records = length (records_of log); vector = held_on log base; log = log; base = base }
  unfolding read_either_of read_either read_sab2 fault
  read_is spare spareBase e d =
      rw (
        eq-eqb (length spare) 40960 e,
        eq-eqb (length spareBase) 43032 d,
        either_faultless,
        state_chosen,
        state_archive,
        state_sender,
        state_count,
        state_vector,
        state_records,
        state_base,
        sound_bytes_on (base_vector base) log g.long.0 (good_log log base g),
      )
