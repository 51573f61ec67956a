-- An accepted SAB2 file holds a sound state, and that state written again under the file's archive and unit gives the same bytes.
-- Assumes nothing.
use Prim.Native.Nat.{ℕ, ◌+◌, ◌-◌, ◌*◌, ◌≤◌, ◌<◌}
use native.Mathlib.Omega.{arith}
use mathlib.Core.Path.{◌≡◌, refl, sym, ap, ◌∙◌}
use mathlib.Core.Logic.{◌⊎◌, inl, inr, ⊎_elim}
use mathlib.Core.Bool.{true, false}
use mathlib.Core.List.{List, [], ◌++◌}
use lib.ListN.{get_or, length}
use Rattle.model.specs.Bytes.{word}
use Rattle.model.specs.Vector.{blocks_for}
use Rattle.model.specs.Record.{Rec, unit}
use Rattle.model.specs.Log.{count_on, vector_on, sound_after, log_bytes}
use Rattle.model.specs.Block.{archive_in, sender_in, vector_in}
use Rattle.model.specs.File.{header_of, blocks_in, block_at, fault, file_record, file_records_from, records_counted, file_records}
use Rattle.base_model.specs.Base.{is_listed, lists_all, base_vector, base_in, sound_base}
use Rattle.run_model.specs.Runs.{letters2, behind, run_to, run_blocks}
use Rattle.run_model.specs.Blocks.{blocks_fault_as}
use Rattle.sab2_model.specs.Rows.{row_count, rows_said, base_rows, base_from, rows_hold}
use Rattle.sab2_model.specs.Sab2.{sab2_from, sab2_of, sab2_blocks, sab2_fits, said_rows, row_blocks, sab2_blocks_fault, sab2_rows, sab2_base, record_part, sab2_records, base_stands, rows_stand, held_fault, sab2_fault, checked_sab2, records_fault_on}
use Rattle.byte_slice.proofs.Numbers.{bool_cases, lt_or_ge, and_true}
use Rattle.block_laws.proofs.Fields.{Sized}
use Rattle.log_laws.specs.Members.{Has}
use Rattle.log_laws.specs.Sound.{SoundOn}
use Rattle.log_laws.proofs.Counts.{find_held_on}
use Rattle.log_laws.proofs.Tests.{vector_on_get_d, sound_means_on}
use Rattle.run_laws.proofs.Records.{length-file_records}
use Rattle.run_laws.proofs.Again.{Bytes}
use Rattle.run_laws.proofs.Rewritten as Runs
use Rattle.held_laws.proofs.Records.{faultless_sound}
use Rattle.held_laws.proofs.Held.{no_fault, held_from}
use Rattle.call_laws.specs.Keeps.{Good}
use Rattle.call_laws.proofs.States.{lists_at, all_lists, state_good}
use Rattle.sab2_row_laws.proofs.Rows.{length_from, rows_of_base}
use Rattle.sab2_row_laws.proofs.Bases.{row_count_lem, sound_laid}
use Rattle.sab2_laws.proofs.Counts.{holds_for, some_said, fits_from}

-- what acceptance means
pub checked-right : (f : List ℕ) → (checked_sab2 f).number ≡ 0 → (sab2_fits (length f) ≡ true) × ((sab2_fault f).number ≡ 0)
unfolding checked_sab2 fault
checked-right f e =
    ⊎_elim
    (λ (a : sab2_fits (length f) ≡ true). (a, rw a at e))
    (λ (a : sab2_fits (length f) ≡ false). let z : ◌≡◌ {A = ℕ} 2 0 = rw a at e in absurd (omega arith))
    (bool_cases (sab2_fits (length f)))

-- a list that names the units of the base vector, and those of the records behind it, names each of the held vector
held_lists : (m : ℕ) (v : List ℕ) (l : List Rec) → SoundOn v l → lists_all m v ≡ true → ((s : Rec) → Has s l → is_listed m (unit s) ≡ true) → lists_all m (vector_on v l) ≡ true
held_lists m v l h e f = all_lists m (vector_on v l) (λ u k. at u k (lt_or_ge (get_or v u 0) (count_on v u l)) (lists_at m v e u k))
  where
    at : (u : ℕ) → u < 8 → (get_or v u 0 < count_on v u l) ⊎ (count_on v u l ≤ get_or v u 0) → (get_or v u 0 ≡ 0) ⊎ (is_listed m u ≡ true)
        → (get_or (vector_on v l) u 0 ≡ 0) ⊎ (is_listed m u ≡ true)
    at u k c (inr a) = inr a
    at u k (inr c) (inl a) = inl (omega (arith, vector_on_get_d v l u k))
    at u k (inl c) (inl a) =
        let (s, i, p, n) = find_held_on v l u (count_on v u l) h c (omega arith) in
        inr (rw p at (f s i))

first_row : (f : List ℕ) → get_or (sab2_rows f) 0 [] ≡ file_record f 0
unfolding sab2_rows said_rows rows_said row_count file_records_from
first_row f = refl

said_first : (f : List ℕ) → said_rows f ≡ rows_said (file_record f 0)
unfolding said_rows
said_first f = refl

row_blocks_lem : (f : List ℕ) → blocks_for (said_rows f) ≡ row_blocks f
unfolding row_blocks
row_blocks_lem f = refl

-- the blocks of a file are those of its rows and records
written_again : (f : List ℕ) → length f ≡ 512 * blocks_in f → 1 ≤ blocks_in f → (blocks_fault_as letters2 (said_rows f) f 0 (blocks_in f)).number ≡ 0 → Bytes f
    → run_to letters2 (header_of (archive_in (block_at f 0)) (sender_in (block_at f 0)) 0 (vector_in (block_at f 0))) (sab2_rows f) (row_blocks f)
    ++ run_to letters2 (behind (header_of (archive_in (block_at f 0)) (sender_in (block_at f 0)) 0 (vector_in (block_at f 0))) (row_blocks f)) (sab2_records f) (blocks_in f - row_blocks f)
    ≡ f
unfolding sab2_rows sab2_records record_part row_blocks
written_again f a b e g = Runs.file_again letters2 (said_rows f) f a b e g

module _ (f : List ℕ) (e : (checked_sab2 f).number ≡ 0) where
  pub lengths : (length f ≡ 512 * blocks_in f) × (1 ≤ blocks_in f) × (blocks_in f ≤ 186)
  lengths = fits_from f (checked-right f e).0

  faults : ((sab2_blocks_fault f).number ≡ 0)
      × ((held_fault (rows_stand (sab2_rows f)) (sab2_base f) (row_blocks f) (blocks_in f) (vector_in (block_at f 0)) (sab2_records f)).number ≡ 0)
  unfolding sab2_fault
  faults =
      no_fault (sab2_blocks_fault f) (held_fault (rows_stand (sab2_rows f)) (sab2_base f) (row_blocks f) (blocks_in f) (vector_in (block_at f 0)) (sab2_records f))
      (checked-right f e).1

  pub blocks_right : (blocks_fault_as letters2 (said_rows f) f 0 (blocks_in f)).number ≡ 0
  unfolding sab2_blocks_fault
  blocks_right = faults.0

  held : (rows_stand (sab2_rows f) ≡ true)
      × ((records_fault_on (get_or (sab2_base f) 0 0) (base_vector (sab2_base f)) (row_blocks f) [] 0 (sab2_records f)).number ≡ 0)
      × (vector_in (block_at f 0) ≡ vector_on (base_vector (sab2_base f)) (sab2_records f))
  held = held_from (sab2_base f) (row_blocks f) (blocks_in f) (vector_in (block_at f 0)) (sab2_records f) (rows_stand (sab2_rows f)) faults.1

  pub vector_right : vector_in (block_at f 0) ≡ vector_on (base_vector (sab2_base f)) (sab2_records f)
  vector_right = held.2

  -- ---- its rows

  some_rows : 1 ≤ said_rows f
  some_rows = omega (arith, some_said (file_record f 0), said_first f)

  rows_length : length (sab2_rows f) ≡ said_rows f
  unfolding sab2_rows
  rows_length = length-file_records f 0 (said_rows f)

  rows_80 : Sized (sab2_rows f)
  unfolding sab2_rows
  rows_80 = Runs.rows_sized letters2 (said_rows f) f lengths.0 lengths.1 blocks_right

  rows_said_lem : length (sab2_rows f) ≡ rows_said (get_or (sab2_rows f) 0 [])
  rows_said_lem = rows_length ∙ rw (first_row f) (said_first f)

  stand : (rows_hold (sab2_rows f) ≡ true) × (lists_all (get_or (sab2_base f) 0 0) (base_vector (sab2_base f)) ≡ true) × (sound_base (sab2_base f) ≡ true)
  unfolding rows_stand base_stands sab2_base
  stand =
      let b : List ℕ = base_from (sab2_rows f) in
      let (x, y) = and_true (rows_hold (sab2_rows f)) (base_stands b) held.0 in
      let (z, w) = and_true (lists_all (get_or b 0 0) (base_vector b)) (sound_base b) y in
      (x, z, w)

  pub base_sound : sound_base (sab2_base f) ≡ true
  base_sound = stand.2

  pub base_long : length (sab2_base f) ≡ 43032
  unfolding sab2_base
  base_long = length_from (sab2_rows f) rows_80 rows_said_lem stand.0

  rows_back : base_rows (sab2_base f) ≡ sab2_rows f
  unfolding sab2_base
  rows_back = rows_of_base (sab2_rows f) rows_80 rows_said_lem stand.0

  -- ---- its records

  sound : (sound_after (base_vector (sab2_base f)) [] (sab2_records f) ≡ true) × (0 + length (sab2_records f) ≤ 512)
      × ((s : Rec) → Has s (sab2_records f) → is_listed (get_or (sab2_base f) 0 0) (unit s) ≡ true)
  sound = faultless_sound (get_or (sab2_base f) 0 0) (base_vector (sab2_base f)) (row_blocks f) (sab2_records f) [] 0 (omega arith) held.1

  pub records_sound : SoundOn (base_vector (sab2_base f)) (sab2_records f)
  records_sound = sound_means_on (base_vector (sab2_base f)) (sab2_records f) sound.0

  pub records_few : length (sab2_records f) ≤ 512
  records_few = omega (arith, sound.1)

  -- list, base and log are a sound state
  pub state : Good (log_bytes (sab2_records f)) (sab2_base f)
  unfolding base_in
  state =
      state_good (sab2_base f) (sab2_records f) base_long base_sound records_sound records_few
      (held_lists (get_or (sab2_base f) 0 0) (base_vector (sab2_base f)) (sab2_records f) records_sound stand.1 sound.2)

  pub sender_right : sender_in (block_at f 0) ≤ 7
  sender_right = Runs.sender_right letters2 (said_rows f) f lengths.0 lengths.1 blocks_right

  pub count-right : blocks_for (length (sab2_records f)) ≡ blocks_in f - row_blocks f
  unfolding sab2_records file_records record_part row_blocks
  count-right =
      rw (length-file_records (record_part f) 0 (records_counted (record_part f)))
      (holds_for (said_rows f) (records_counted (record_part f)) (blocks_in f - row_blocks f) some_rows (Runs.held letters2 (said_rows f) f lengths.0 lengths.1 blocks_right))

  pub row_blocks_right : row_blocks f ≤ blocks_in f
  unfolding row_blocks
  row_blocks_right = Runs.rows_inside letters2 (said_rows f) f lengths.0 lengths.1 blocks_right

  -- it has as many blocks as that state asks for
  pub blocks_again : sab2_blocks (sab2_base f) (sab2_records f) ≡ blocks_in f
  unfolding sab2_blocks
  blocks_again =
      let n : row_count (word (sab2_base f) 2) (word (sab2_base f) 4) ≡ said_rows f = sym (row_count_lem (sab2_base f) (sound_laid (sab2_base f) base_long base_sound)) ∙ ap (λ (x : List Rec). length x) rows_back ∙ rows_length in
      rw (n, row_blocks_lem f, count-right) (omega (arith, row_blocks_right))

  -- the file is that of its own list, base and records
  pub file_again : Bytes f → sab2_of (archive_in (block_at f 0)) (sender_in (block_at f 0)) (sab2_base f) (sab2_records f) ≡ f
  unfolding sab2_of sab2_from run_blocks
  file_again g =
      let z : blocks_for (length (sab2_rows f)) ≡ row_blocks f = ap blocks_for rows_length ∙ row_blocks_lem f in
      rw (rows_back, ← vector_right, z, count-right) (written_again f lengths.0 lengths.1 blocks_right g)
