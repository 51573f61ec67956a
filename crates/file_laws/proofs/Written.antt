-- A written file is accepted, and read back as the same log, archive and unit.
-- Assumes nothing.
use Prim.Native.Nat.{ℕ, ◌-◌, ◌*◌, ◌/◌, ◌%◌, ◌≤◌, ◌<◌}
use native.Mathlib.Omega.{arith}
use mathlib.Core.Path.{◌≡◌, refl, sym, ◌∙◌}
use mathlib.Core.Bool.{true}
use mathlib.Core.List.{List, [], ◌++◌}
use lib.ListN.{length, take, drop, replicate}
use borrow.Author.Tests.{eq-eqb, le-leb}
use Rattle.model.specs.Bytes.{padded}
use Rattle.model.specs.Vector.{blocks_for}
use Rattle.model.specs.Record.{Rec, unit}
use Rattle.model.specs.Log.{vector_of, no_counts, log_bytes}
use Rattle.model.specs.Block.{Header, letters, block_of, archive_in, sender_in, vector_in}
use Rattle.model.specs.File.{block_count, header_of, file_block, file_of, file_length, blocks_in, block_at, fault, blocks_fault, records_counted, file_records, records_fault, counts_fault, or_else, file_fault, checked_fault}
use Rattle.base_model.specs.Base.{empty_base}
use Rattle.call_model.specs.Read.{read_back, read_of}
use Rattle.run_model.specs.Runs.{behind, run_to}
use Rattle.byte_slice.proofs.Parts.{part_front}
use Rattle.byte_slice.proofs.Compare.{same_refl}
use Rattle.block_laws.proofs.Fields.{Sized}
use Rattle.log_laws.specs.Sound.{Sound}
use Rattle.log_laws.proofs.Counts.{unit_of_lem}
use Rattle.log_laws.proofs.Tests.{vector_of-length, means_sound}
use Rattle.run_laws.proofs.Sab1.{to_run, no_rows_run, blocks_fault_sab1, count-holds}
use Rattle.run_laws.proofs.Written as Runs
use Rattle.take_laws.proofs.Union.{all_eight}
use Rattle.held_laws.proofs.Records.{sound_faultless, records_sab1}
use Rattle.encoding_laws.proofs.Logs.{sound_proper, proper_sized}
use Rattle.encoding_laws.proofs.Files.{few_blocks, length-file_to, block_of_file}

pub some_blocks : (n : ℕ) → 1 ≤ block_count n
unfolding block_count
some_blocks n = omega arith

-- ---- the file of a sound log

module _ (archive u : ℕ) (l : List Rec) (s : Sound l) (h : length l ≤ 512) (u7 : u ≤ 7) where
  abbrev file : List ℕ
  file = file_of archive u l

  abbrev blocks : ℕ
  blocks = block_count (length l)

  sized : Sized l
  sized = proper_sized l (sound_proper l s)

  pub file_bytes : length file ≡ 512 * blocks
  unfolding file_of
  file_bytes = length-file_to archive u l sized blocks

  pub file_blocks : blocks_in file ≡ blocks
  unfolding blocks_in
  file_blocks = omega (arith, file_bytes)

  pub length_accepted : file_length file ≡ true
  unfolding file_length
  length_accepted =
      let e : length file / 512 ≡ blocks = omega (arith, file_bytes) in
      rw (eq-eqb (length file % 512) 0 (omega (arith, file_bytes)), e, le-leb 1 blocks (some_blocks (length l)), le-leb blocks 86 (few_blocks (length l) h))

  pub block_is : (k : ℕ) → k < blocks → block_at file k ≡ block_of (header_of archive u k (vector_of l)) (take 6 (drop (6 * k) l))
  unfolding block_at padded file_block
  block_is k b =
      sym (part_front file (replicate (44032 - length file) 0) (512 * k) 512 (omega (arith, file_bytes))) ∙ block_of_file archive u l sized k b

  -- ---- as no rows and then its records

  abbrev H : Header
  H = header_of archive u 0 (vector_of l)

  file_run : file_of archive u l ≡ run_to letters H [] (blocks_for 0) ++ run_to letters (behind H (blocks_for 0)) l blocks
  unfolding file_of
  file_run = to_run archive u l blocks ∙ sym (no_rows_run letters H l blocks)

  blocks_pass : blocks_fault file 0 (blocks_in file) ≡ fault 0 0
  unfolding header_of
  blocks_pass = blocks_fault_sab1 file (blocks_in file) 0 ∙ rw file_run (Runs.blocks_pass letters refl H refl u7 (vector_of-length l) [] l tt sized blocks (count-holds (length l)))

  archive_is : archive_in (block_at file 0) ≡ archive
  unfolding header_of
  archive_is = rw file_run (Runs.archive_read letters refl H refl u7 (vector_of-length l) [] l tt sized blocks (count-holds (length l)))

  sender_is : sender_in (block_at file 0) ≡ u
  unfolding header_of
  sender_is = rw file_run (Runs.sender_read letters refl H refl u7 (vector_of-length l) [] l tt sized blocks (count-holds (length l)))

  vector_is : vector_in (block_at file 0) ≡ vector_of l
  unfolding header_of
  vector_is = rw file_run (Runs.vector_read letters refl H refl u7 (vector_of-length l) [] l tt sized blocks (count-holds (length l)))

  pub count_read : records_counted file ≡ length l
  unfolding header_of blocks_for
  count_read = rw file_run (Runs.count_read letters refl H refl u7 (vector_of-length l) [] l tt sized blocks (count-holds (length l)))

  pub records_read : file_records file ≡ l
  unfolding header_of blocks_for
  records_read = rw file_run (Runs.records_read letters refl H refl u7 (vector_of-length l) [] l tt sized blocks (count-holds (length l)))

  no_fault : file_fault file ≡ fault 0 0
  unfolding file_fault or_else counts_fault fault
  no_fault =
      let r : records_fault [] 0 l ≡ fault 0 0 = records_sab1 l [] 0 ∙ sound_faultless 255 no_counts 0 l [] 0 (means_sound l s) (λ x i. all_eight (unit x) (unit_of_lem [] l x s i)) (omega arith) in
      rw (blocks_pass, records_read, r, vector_is, same_refl (vector_of l))

  pub checked_is : (checked_fault file).number ≡ 0
  unfolding fault
  checked_is = rw (length_accepted, no_fault)

  pub read_is : (log base : List ℕ) → length log ≡ 40960 → length base ≡ 43032
      → read_of log base file ≡ record { number = 0; place = 0; archive = archive; sender = u; records = length l; vector = vector_of l; log = log_bytes l; base = empty_base }
  unfolding read_of read_back fault
  read_is log base e d =
      rw (
        eq-eqb (length log) 40960 e,
        eq-eqb (length base) 43032 d,
        length_accepted,
        no_fault,
        archive_is,
        sender_is,
        count_read,
        vector_is,
        records_read,
      )
