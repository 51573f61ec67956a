-- Claims F1, F2 and F3: what a file is, and that writing and reading undo each other.
-- Assumes nothing.
use Prim.Native.Nat.{ℕ, suc, ◌-◌, ◌*◌, ◌≤◌, ◌<◌}
use native.Mathlib.Omega.{arith}
use mathlib.Core.Path.{◌≡◌, refl, ap, ◌∙◌}
use mathlib.Core.Logic.{⊎_elim}
use mathlib.Core.Bool.{true, false}
use mathlib.Core.List.{List, []}
use lib.ListN.{get_or, length, take, drop, replicate}
use lib.Seq.{take_at}
use Rattle.model.specs.Record.{Rec}
use Rattle.model.specs.Bytes.{blank, padded}
use Rattle.model.specs.Log.{vector_of, no_counts, sound_after, records_of, log_bytes}
use Rattle.model.specs.Block.{block_of, archive_in, sender_in}
use Rattle.model.specs.File.{block_count, header_of, file_block, file_to, file_of, blocks_in, block_at, file_records}
use Rattle.base_model.specs.Base.{empty_base, base_vector}
use Rattle.call_model.specs.Read.{read_back, read_of}
use Rattle.call_model.specs.Outcome.{outcome, refusal, write_of}
use Rattle.log_laws.specs.Sound.{Sound}
use Rattle.log_laws.proofs.Tests.{sound_means}
use Rattle.call_laws.specs.Keeps.{Good}
use Rattle.encoding_laws.proofs.Files.{few_blocks}
use Rattle.encoding_laws.proofs.Logs.{sound_few, sound_bytes_on}
use Rattle.call_laws.proofs.States.{good_log, sound_back, fresh_good, empty_vector}
use Rattle.call_laws.proofs.Given.{write_cases, write_done, write_folded, unfolded_sound}
use Rattle.call_laws.proofs.Reading.{read_keeps, file_records_lem}
use Rattle.file_laws.proofs.Written as Written
use Rattle.file_laws.proofs.Rewritten.{read_accepted, file_again, length-right, sender_right}

-- ---- F1: the file of a log

-- 1 to 86 blocks
pub one_to_86_blocks : (n : ℕ) → n ≤ 512 → (1 ≤ block_count n) × (block_count n ≤ 86)
one_to_86_blocks n h = (Written.some_blocks n, few_blocks n h)

-- of 512 bytes each
pub blocks_of_512 : (archive u : ℕ) (l : List Rec) → sound_after no_counts [] l ≡ true → length l ≤ 512 → u ≤ 7 → length (file_of archive u l) ≡ 512 * block_count (length l)
blocks_of_512 archive u l s h k = Written.file_bytes archive u l (sound_means l s) h k

-- block k holds six records from 6 times k on, or what is left of them
pub block_of_file : (archive u : ℕ) (l : List Rec) → sound_after no_counts [] l ≡ true → length l ≤ 512 → u ≤ 7 → (k : ℕ) → k < block_count (length l)
    → block_at (file_of archive u l) k ≡ block_of (header_of archive u k (vector_of l)) (take 6 (drop (6 * k) l))
block_of_file archive u l s h v k b = Written.block_is archive u l (sound_means l s) h v k b

-- an empty log is one block of count 0
pub empty_log_is_one_block : (archive u : ℕ) → file_of archive u [] ≡ block_of (header_of archive u 0 (vector_of [])) []
unfolding file_of file_to file_block block_count
empty_log_is_one_block archive u = refl

-- ---- F2: a written file is accepted, and read back as the same log, archive and unit, with nothing folded

pub written_then_read : (archive u : ℕ) (l : List Rec) (log base : List ℕ) → sound_after no_counts [] l ≡ true → length l ≤ 512 → u ≤ 7 → length log ≡ 40960 → length base ≡ 43032
    → read_of log base (file_of archive u l)
    ≡ record { number = 0; place = 0; archive = archive; sender = u; records = length l; vector = vector_of l; log = log_bytes l; base = empty_base }
written_then_read archive u l log base s h k e d = Written.read_is archive u l (sound_means l s) h k log base e d

-- ---- F3: an accepted file, written again under its own archive and unit, gives the same bytes

pub read_then_written : (log base f : List ℕ) → ((j : ℕ) → get_or f j 0 < 256) → (read_of log base f).number ≡ 0
    → file_of (read_of log base f).archive (read_of log base f).sender (file_records f) ≡ f
unfolding read_back
read_then_written log base f g e = let (a, b, c) = read_accepted log base f e in rw c (file_again f a b g)

-- the log left is that of its records, the base is empty, and both are good
pub accepted_file_leaves_its_records : (log base f : List ℕ) → (read_of log base f).number ≡ 0
    → ((read_of log base f).log ≡ log_bytes (file_records f)) × ((read_of log base f).base ≡ empty_base) × Good (read_of log base f).log (read_of log base f).base
unfolding read_back
accepted_file_leaves_its_records log base f e = let (a, b, c) = read_accepted log base f e in (rw c, rw c, (read_keeps log base f).accepted e)

-- ---- the same of the calls

-- a log that a call has written reads back, into any lent log and base, as itself, with the archive and the unit of the writing
pub call_written_then_read : (archive u : ℕ) (log base lent spare spareBase : List ℕ) → (write_of archive u log base lent).number ≡ 0 → length spare ≡ 40960 → length spareBase ≡ 43032
    → read_of spare spareBase (take (512 * (write_of archive u log base lent).blocks) (write_of archive u log base lent).lent)
    ≡ record { number = 0; place = 0; archive = archive; sender = u; records = length (records_of log); vector = vector_of (records_of log); log = log; base = empty_base }
unfolding padded
call_written_then_read archive u log base lent spare spareBase z e d =
    ⊎_elim
    (λ (n, q). let y : suc n ≡ 0 = rw q at z in absurd (omega arith))
    (λ (q, _, v, k, _, g).
    let s : Sound l = unfolded_sound log base g v in
    let m : length l ≤ 512 = sound_few log in
    rw (q, take_at (file_of archive u l) (replicate (44032 - length (file_of archive u l)) 0) (512 * block_count (length l)) (Written.file_bytes archive u l s m k))
    (Written.read_is archive u l s m k spare spareBase e d
    ∙ ap (λ (b : List ℕ). record { number = 0; place = 0; archive = archive; sender = u; records = length l; vector = vector_of l; log = b; base = empty_base })
    (sound_bytes_on (base_vector base) log g.long.0 (good_log log base g))))
    (write_cases archive u log base lent)
  where
    l : List Rec
    l = records_of log

-- what a call has read from a file, written again under the file's archive and unit, gives the file, and zeros behind it
pub call_read_then_written : (spare spareBase f lent : List ℕ) → ((j : ℕ) → get_or f j 0 < 256) → (read_of spare spareBase f).number ≡ 0 → length lent ≡ 44032
    → write_of (read_of spare spareBase f).archive (read_of spare spareBase f).sender (read_of spare spareBase f).log (read_of spare spareBase f).base lent
    ≡ outcome 0 0 (read_of spare spareBase f).log (padded 44032 f) (blocks_in f)
unfolding read_back
call_read_then_written spare spareBase f lent g z e =
    let (a, b, c) = read_accepted spare spareBase f z in
    let (s, m) = file_records_lem f b in
    let l : List Rec = file_records f in
    let h : Sound l = sound_means l s in
    rw c
    (write_done (archive_in (block_at f 0)) (sender_in (block_at f 0)) (log_bytes l) empty_base lent e (sender_right f a b) (fresh_good l h m) empty_vector
    ∙ rw (sound_back l h m, file_again f a b g, length-right f a b))

-- where records are folded no file is written, and all is left
pub folded_is_not_written : (archive u : ℕ) (log base lent : List ℕ) → length lent ≡ 44032 → u ≤ 7 → Good log base → blank (base_vector base) ≡ false
    → write_of archive u log base lent ≡ refusal 29 log lent
folded_is_not_written archive u log base lent = write_folded archive u log base lent
