-- An SAB1 file as SAB2 reads as it did, and back again it is the same bytes; on the way back of an SAB2 file only its list is lost.
-- Assumes nothing.
use Prim.Native.Nat.{ℕ, ◌-◌, ◌*◌, ◌≤◌}
use mathlib.Core.Path.{◌≡◌, refl, sym, ap, ◌∙◌}
use mathlib.Core.Bool.{true, false}
use mathlib.Core.List.{List}
use lib.ListN.{length, take, replicate}
use lib.Seq.{take_at}
use borrow.Author.Tests.{eq-eqb}
use Rattle.model.specs.Bytes.{padded}
use Rattle.model.specs.Record.{Rec}
use Rattle.model.specs.Log.{no_counts, records_of, log_bytes}
use Rattle.model.specs.Block.{letters, archive_in, sender_in}
use Rattle.model.specs.File.{blocks_in, block_at, fault, or_else, records_counted, file_records, file_length, file_fault, checked_fault}
use Rattle.base_model.specs.Base.{empty_base, base_vector}
use Rattle.call_model.specs.Outcome.{whole_number}
use Rattle.call_model.specs.Read.{read_back, read_of}
use Rattle.sab2_model.specs.Sab2.{sab2_of, sab2_blocks, sab2_base, sab2_records, checked_sab2, is_sab2}
use Rattle.sab2_model.specs.Calls.{read_either_of, converted, or_converted, as_sab2, to_sab2_of, way_back, as_sab1, to_sab1_of}
use Rattle.log_laws.specs.Sound.{Sound}
use Rattle.log_laws.proofs.Tests.{vector_on-none, sound_means}
use Rattle.run_laws.proofs.Records.{length-file_records}
use Rattle.run_laws.proofs.Again.{Bytes}
use Rattle.run_laws.proofs.Passed.{begins_with}
use Rattle.call_laws.specs.Keeps.{Good}
use Rattle.call_laws.proofs.States.{sound_back, fresh_good, empty_vector}
use Rattle.call_laws.proofs.Given.{none-blank}
use Rattle.call_laws.proofs.Reading.{file_records_lem, checked-right}
use Rattle.file_laws.proofs.Rewritten as Sab1
use Rattle.sab2_laws.proofs.Forms.{sab1_begins, sab1_read}
use Rattle.sab2_laws.proofs.Written as Written

module _ (f : List ℕ) (e : (checked_fault f).number ≡ 0) where
  right : (file_length f ≡ true) × ((file_fault f).number ≡ 0)
  right = checked-right f e

  abbrev l : List Rec
  l = file_records f

  abbrev a : ℕ
  a = archive_in (block_at f 0)

  abbrev u : ℕ
  u = sender_in (block_at f 0)

  sound : Sound l
  sound = sound_means l (file_records_lem f right.1).0

  few : length l ≤ 512
  few = (file_records_lem f right.1).1

  good : Good (log_bytes (file_records f)) empty_base
  good = fresh_good l sound few

  own : u ≤ 7
  own = Sab1.sender_right f right.0 right.1

  back : records_of (log_bytes (file_records f)) ≡ file_records f
  back = sound_back l sound few

  -- it does not begin with SAB2
  pub is_sab1 : is_sab2 f ≡ false
  is_sab1 = sab1_begins f (begins_with letters f (Sab1.agreeing f right.0 right.1 0 (Sab1.lengths f right.0 right.1).1).good)

  -- the SAB2 file is that of its records behind an empty base
  pub up_is : as_sab2 f ≡ sab2_of (archive_in (block_at f 0)) (sender_in (block_at f 0)) empty_base (records_of (log_bytes (file_records f)))
  unfolding as_sab2
  up_is = rw back

  -- ---- what it is

  pub up_chosen : is_sab2 (as_sab2 f) ≡ true
  up_chosen = rw up_is (Written.state_chosen a u (log_bytes l) empty_base good own)

  pub up_faultless : checked_sab2 (as_sab2 f) ≡ fault 0 0
  up_faultless = rw up_is (Written.state_faultless a u (log_bytes l) empty_base good own)

  up_base : sab2_base (as_sab2 f) ≡ empty_base
  up_base = rw up_is (Written.state_base a u (log_bytes l) empty_base good own)

  up_records : sab2_records (as_sab2 f) ≡ file_records f
  up_records = rw up_is (Written.state_records a u (log_bytes l) empty_base good own ∙ back)

  up_archive : archive_in (block_at (as_sab2 f) 0) ≡ archive_in (block_at f 0)
  up_archive = rw up_is (Written.state_archive a u (log_bytes l) empty_base good own)

  up_sender : sender_in (block_at (as_sab2 f) 0) ≡ sender_in (block_at f 0)
  up_sender = rw up_is (Written.state_sender a u (log_bytes l) empty_base good own)

  pub up_length : length (as_sab2 f) ≡ 512 * sab2_blocks empty_base (file_records f)
  up_length = ap (λ (x : List ℕ). length x) up_is ∙ Written.state_bytes a u (log_bytes l) empty_base good own ∙ ap (λ (x : List Rec). 512 * sab2_blocks empty_base x) back

  count : records_counted f ≡ length (file_records f)
  unfolding file_records
  count = sym (length-file_records f 0 (records_counted f))

  -- it reads as the SAB1 file does
  pub up_reads : (spare spareBase : List ℕ) → length spare ≡ 40960 → length spareBase ≡ 43032 → read_either_of spare spareBase (as_sab2 f) ≡ read_either_of spare spareBase f
  unfolding read_of read_back
  up_reads spare spareBase n m =
      rw (up_is, Written.read_is a u (log_bytes l) empty_base good own spare spareBase n m, sab1_read spare spareBase f is_sab1)
      (sym (rw (
        eq-eqb (length spare) 40960 n,
        eq-eqb (length spareBase) 43032 m,
        eq-eqb (checked_fault f).number 0 e,
        Sab1.vector_right f right.0 right.1,
        back,
        empty_vector,
        vector_on-none (file_records f),
        count,
      )))

  -- ---- and back again

  pub back_is : Bytes f → as_sab1 (as_sab2 f) ≡ f
  unfolding as_sab1
  back_is g = rw (up_archive, up_sender, up_records) (Sab1.file_again f right.0 right.1 g)

  way_right : way_back (checked_sab2 (as_sab2 f)) (base_vector (sab2_base (as_sab2 f))) ≡ fault 0 0
  unfolding way_back or_else fault
  way_right = rw (up_faultless, up_base, empty_vector) (ap (λ (n : ℕ). record { number = n; place = 0 }) whole)
    where
      whole : whole_number no_counts ≡ 0
      whole = rw (none-blank no_counts refl)

  pub up_call : (lent : List ℕ) → length lent ≡ 95232 → to_sab2_of f lent ≡ converted 0 0 (sab2_blocks empty_base (file_records f)) (padded 95232 (as_sab2 f))
  unfolding to_sab2_of or_converted
  up_call lent n = rw (eq-eqb (length lent) 95232 n, eq-eqb (checked_fault f).number 0 e)

  pub back_call : Bytes f → (lent : List ℕ) → length lent ≡ 44032 → to_sab1_of (as_sab2 f) lent ≡ converted 0 0 (blocks_in f) (padded 44032 f)
  unfolding to_sab1_of or_converted fault
  back_call g lent n = rw (eq-eqb (length lent) 44032 n, way_right, back_is g, up_records, Sab1.length-right f right.0 right.1)

  -- both calls, one after the other
  pub there_and_back : Bytes f → (lent spare : List ℕ) → length lent ≡ 95232 → length spare ≡ 44032
      → to_sab1_of (take (512 * (to_sab2_of f lent).blocks) (to_sab2_of f lent).lent) spare ≡ converted 0 0 (blocks_in f) (padded 44032 f)
  unfolding padded
  there_and_back g lent spare n m =
      rw (up_call lent n, take_at (as_sab2 f) (replicate (95232 - length (as_sab2 f)) 0) (512 * sab2_blocks empty_base (file_records f)) up_length) (back_call g spare m)
