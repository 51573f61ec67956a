-- A file without a fault becomes a log: its records, one behind another, and zeros behind them.
-- Assumes nothing.
use Prim.Native.Nat.{ℕ, zero, suc, ◌+◌, ◌-◌, ◌*◌, ◌/◌, ◌%◌, ◌≤◌, ◌<◌}
use native.Mathlib.Numerals.{add-one}
use native.Mathlib.Omega.{arith}
use mathlib.Core.Path.{◌≡◌, refl, sym, ap, ◌∙◌}
use mathlib.Core.List.{List, [], ◌∷◌, ◌++◌, append-nil}
use lib.ListN.{length, take, drop, replicate, length-take}
use borrow.Author.Tests.{lt-leb, le-ltb}
use Rattle.model.specs.Bytes.{part, joined, put_at}
use Rattle.model.specs.Log.{log_bytes}
use Rattle.model.specs.Block.{archive_in, sender_in, vector_in}
use Rattle.model.specs.File.{blocks_in, block_at, fault, blocks_fault, records_counted, file_record, file_records_from, file_records, records_fault, counts_fault, or_else, file_fault, checked_fault}
use Rattle.base_model.specs.Base.{empty_base}
use Rattle.call_model.specs.Read.{read_back, read_of}
use Rattle.byte_slice.proofs.Parts.{part_length}
use Rattle.byte_slice.proofs.PutAt.{put-padded}
use Rattle.block_laws.proofs.Fields.{Sized, length-joined, joined-append}
use Rattle.encoding_laws.proofs.Logs.{empty_log}
use Rattle.call_laws.proofs.Reading.{no_fault, file_records_lem}
use Rattle.run_laws.proofs.Records.{length-file_records}
use Rattle.file_reader.specs.Walk.{record_or_zeros, walked_to}
use Rattle.log_check.specs.declared.Layout.TheVariants.{File}
use Rattle.log_check.specs.Places.{offset_of, laid_at}
use Rattle.log_check.proofs.Lists.{listed_more}
use Rattle.read_file_blocks.proofs.Agreement.{blocks_counted}
use Rattle.read_file_check.specs.Outcome.{read_back_of}
use Rattle.read_file_check.proofs.Records.{file_listed}
use Rattle.read_file_check.proofs.Checks.{few_in_blocks, file_read, right-whole, right_some, right_few, faultless}
use Rattle.read_file.specs.From.{read_from}

-- ---- how many

module _ (f : List ℕ) (n : ℕ) {total : ℕ} (whole : length f ≡ 512 * n) (e : total ≡ records_counted f) (z : (file_fault f).number ≡ 0) where
  pub few_in_file : 1 ≤ n → total ≤ 6 * n
  unfolding file_fault
  few_in_file some =
      let b : (blocks_fault f 0 (blocks_in f)).number ≡ 0 = (no_fault (blocks_fault f 0 (blocks_in f)) (or_else (records_fault [] 0 (file_records f)) (counts_fault f)) z).0 in
      rw e (few_in_blocks f n whole some (rw (blocks_counted f n whole) at b))

  pub few_in_log : total ≤ 512
  unfolding file_records
  few_in_log = omega (arith, length-file_records f 0 (records_counted f), (file_records_lem f z).1)

-- ---- one record more

module _ (f : List ℕ) (n : ℕ) (whole : length f ≡ 512 * n) where
  sized : (m i : ℕ) → i + m ≤ 6 * n → Sized (file_records_from f i m)
  unfolding file_records_from file_record
  sized zero i h = tt
  sized (suc m) i h = (part_length f (512 * (i / 6) + (28 + 80 * (i % 6))) 80 (omega arith), sized m (suc i) (omega arith))

  records_more : (i : ℕ) → file_records_from f 0 (suc i) ≡ file_records_from f 0 i ++ (file_record f i ∷ [])
  unfolding laid_at offset_of file_record
  records_more i = rw (← add-one i) (file_listed f 0 (i + 1) ∙ listed_more (laid_at File f) 0 i ∙ (let z : 0 + i ≡ i = omega arith in rw (z, file_listed f 0 i)))

  record_is : (i : ℕ) → i < 6 * n → i < 512 → record_or_zeros f i ≡ file_record f i
  unfolding record_or_zeros
  record_is i h g = rw (lt-leb 516 i (omega arith), le-ltb (length f) (512 * (i / 6) + (28 + 80 * (i % 6)) + 80) (omega arith))

  pub copied_none : {d : List ℕ} {m : ℕ} → m ≡ 40960 → d ≡ replicate m 0 → d ≡ log_bytes (file_records_from f 0 0)
  unfolding file_records_from
  copied_none em e = e ∙ rw em (sym empty_log)

  pub walk_fits : (total : ℕ) (d : List ℕ) → total ≤ 512 → length d ≡ 40960 → 80 * total ≤ length d
  walk_fits total d h e = omega arith

  copied_more : (i : ℕ) → i < 6 * n → i < 512 → put_at (log_bytes (file_records_from f 0 i)) (80 * i) (record_or_zeros f i) ≡ log_bytes (file_records_from f 0 (suc i))
  unfolding log_bytes joined
  copied_more i g k =
      let l = file_records_from f 0 i in
      let r = file_record f i in
      let n₀ : length (joined l) ≡ 80 * i = length-joined l (sized i 0 (omega arith)) ∙ ap (λ (x : ℕ). 80 * x) (length-file_records f 0 i) in
      let j : joined (l ++ (r ∷ [])) ≡ joined l ++ r = joined-append l (r ∷ []) ∙ rw append-nil in
      rw (record_is i g k, records_more i, j) (rw n₀ at (put-padded 40960 (joined l) r))

  -- a walk over a log of zeros
  walked_is : (i : ℕ) → i ≤ 6 * n → i ≤ 512 → walked_to (log_bytes []) f i ≡ log_bytes (file_records_from f 0 i)
  unfolding walked_to file_records_from
  walked_is zero h k = refl
  walked_is (suc i) h k = ap (λ (d : List ℕ). put_at d (80 * i) (record_or_zeros f i)) (walked_is i (omega arith) (omega arith)) ∙ copied_more i (omega arith) (omega arith)

  pub copied_all : {total m : ℕ} {d o : List ℕ} → m ≡ 40960 → d ≡ replicate m 0 → o ≡ walked_to d f total → total ≤ 6 * n → total ≤ 512 → o ≡ log_bytes (file_records_from f 0 total)
  copied_all {total} em ed eo h k = eo ∙ ap (λ (z : List ℕ). walked_to z f total) (ed ∙ rw em (sym empty_log)) ∙ walked_is total h k

-- ---- what `load` answers

pub loaded : (b f : List ℕ) {a u k : ℕ} {v o : List ℕ} → a ≡ archive_in b → u ≡ sender_in b → v ≡ vector_in b → k ≡ records_counted f → o ≡ log_bytes (file_records_from f 0 k)
    → read_back_of 0 0 a u k v o empty_base ≡ read_from b f empty_base
unfolding read_from file_records
loaded b f ea eu ev ek eo = rw (eo, ek, ea, eu, ev)

-- ---- an SAB1 file

from_whole : (f : List ℕ) → read_from (take (512 - 0) (drop 0 f)) f empty_base ≡ read_back f
unfolding read_from read_back block_at part
from_whole f = refl

module _ (f : List ℕ) (m q : ℕ) (e : fault m q ≡ checked_fault f) (z : m ≡ 0) where
  pub few_of_file : records_counted f ≤ 6 * (length f / 512)
  few_of_file = few_in_file f (length f / 512) (right-whole f m q e z) refl (faultless f m q e z) (right_some f m q e z)

  pub few_of_log : records_counted f ≤ 512
  few_of_log = few_in_log f (length f / 512) (right-whole f m q e z) refl (faultless f m q e z)

  pub few_blocks : length f / 512 ≤ 186
  few_blocks = omega (arith, right_few f m q e z)

  pub first_block : 512 ≤ length f
  first_block = omega (arith, right-whole f m q e z, right_some f m q e z)

  pub first_lent : length (take (512 - 0) (drop 0 f)) ≡ 512
  first_lent = omega (arith, first_block, length-take 512 f)

  pub file_loaded : (log : List ℕ) {a u k : ℕ} {v o : List ℕ} → length log ≡ 40960 → read_back_of 0 0 a u k v o empty_base ≡ read_from (take (512 - 0) (drop 0 f)) f empty_base
      → read_back_of 0 0 a u k v o empty_base ≡ read_of log empty_base f
  file_loaded log l r = file_read log f l m q e z (r ∙ from_whole f)
