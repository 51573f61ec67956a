-- K1: what one file out of two is. Its records are all of both and a sound log; it reads back; either way round it has the same records; a
-- file merged with itself is that file; merging is taking the second's blocks.
-- Assumes nothing.
use Prim.Native.Nat.{ℕ, ◌+◌, ◌-◌, ◌*◌, ◌≤◌, ◌<◌, max}
use native.Mathlib.Omega.{arith}
use mathlib.Core.Path.{◌≡◌, refl, sym, ap}
use mathlib.Core.Logic.{◌⊎◌, ⊎_elim, ◌↔◌}
use mathlib.Core.Bool.{true}
use mathlib.Core.List.{List, []}
use lib.ListN.{length, take, replicate}
use lib.Seq.{take_at}
use borrow.Author.Tests.{eq-eqb}
use Rattle.model.specs.Bytes.{padded}
use Rattle.model.specs.Record.{Rec}
use Rattle.model.specs.Log.{count, no_counts, vector_of, records_of, log_bytes, lacking}
use Rattle.model.specs.Block.{archive_in, sender_in}
use Rattle.model.specs.File.{block_count, file_of, file_length, blocks_in, block_at, file_records, fault, file_fault, checked_fault}
use Rattle.base_model.specs.Base.{empty_base}
use Rattle.call_model.specs.Read.{read_back, read_of}
use Rattle.call_model.specs.Outcome.{taken, takes_all}
use Rattle.model.specs.Merge.{union, union_fault, merged, joined_file, merge_of}
use Rattle.log_laws.specs.Members.{Has}
use Rattle.log_laws.specs.Sound.{Sound}
use Rattle.log_laws.proofs.Same.{unique}
use Rattle.take_laws.proofs.Union.{union_taken}
use Rattle.merge_laws.proofs.Counts.{union-longer, union-counts, union_length_exchanged}
use Rattle.merge_laws.proofs.Claims.{agree_exchanged, union_exchanged, union_itself}
use Rattle.call_laws.specs.Keeps.{GoodLog}
use Rattle.call_laws.proofs.States.{log_good, sound_back, fresh_good, empty_list, empty_vector}
use Rattle.call_laws.proofs.Merging.{checked_both, file_sound, file_few, archives_one, files_agree, files_room, files_faultless, Accepted, merge_accepted, accepted_merge, records_both, records_few}
use Rattle.file_laws.specs.Taking.{TakesBlocks}
use Rattle.run_laws.proofs.Again.{Bytes}
use Rattle.file_laws.proofs.Rewritten.{file_again, length-right, sender_right}
use Rattle.file_laws.proofs.Taking.{file_taken}
use Rattle.file_laws.proofs.Written as Written

-- a good file is read
read_good : (f log base : List ℕ) → file_length f ≡ true → (file_fault f).number ≡ 0 → length log ≡ 40960 → length base ≡ 43032
    → ((read_of log base f).log ≡ log_bytes (file_records f)) × ((read_of log base f).base ≡ empty_base)
unfolding read_of read_back
read_good f log base a e l m = rw (eq-eqb (length log) 40960 l, eq-eqb (length base) 43032 m, a, eq-eqb (file_fault f).number 0 e) (refl, refl)

-- ---- a merge that is accepted

module _ (f g log lent : List ℕ) (z : (merge_of f g log lent).number ≡ 0) where
  given : Accepted f g log lent
  given = merge_accepted f g log lent z

  sound : Sound (union (file_records f) (file_records g))
  sound = (records_both f g log lent given).sound

  few : length (union (file_records f) (file_records g)) ≤ 512
  few = records_few f g log lent given

  result : merge_of f g log lent ≡ joined_file f (union (file_records f) (file_records g))
  result = accepted_merge f g log lent given

  -- the log that it leaves is good, and has the union of the two files' records
  pub merged_sound : GoodLog (merge_of f g log lent).log × (records_of (merge_of f g log lent).log ≡ union (file_records f) (file_records g))
  unfolding joined_file
  merged_sound = rw result (log_good (union (file_records f) (file_records g)) sound few, sound_back (union (file_records f) (file_records g)) sound few)

  -- these are exactly the records of both
  pub merged-holds : (r : Rec) → Has r (records_of (merge_of f g log lent).log) ↔ (Has r (file_records f) ⊎ Has r (file_records g))
  merged-holds r =
      let w = records_both f g log lent given in
      rw merged_sound.1 (λ i. w.from r i, λ i. ⊎_elim (λ j. w.first r j) (λ j. w.second r j) i)

  -- of each unit as many as the file has that has more of it
  pub merged-counts : (u : ℕ) → u < 8 → count u (records_of (merge_of f g log lent).log) ≡ max (count u (file_records f)) (count u (file_records g))
  merged-counts u k = rw merged_sound.1 (union-counts (file_records f) (file_records g) (file_sound g given.second) u k)

  -- the blocks written are a file of them, under the first file's archive and unit, which reads back as that log; zeros stand behind
  pub merged_reads : (spare base : List ℕ) → length spare ≡ 40960 → length base ≡ 43032
      → read_of spare base (take (512 * (merge_of f g log lent).blocks) (merge_of f g log lent).lent)
      ≡ record {
        number = 0;
        place = 0;
        archive = archive_in (block_at f 0);
        sender = sender_in (block_at f 0);
        records = length (union (file_records f) (file_records g));
        vector = vector_of (union (file_records f) (file_records g));
        log = (merge_of f g log lent).log;
        base = empty_base;
      }
  unfolding joined_file padded
  merged_reads spare base e d =
      let l : List Rec = union (file_records f) (file_records g) in
      let a : ℕ = archive_in (block_at f 0) in
      let u : ℕ = sender_in (block_at f 0) in
      let (x, y) = checked_both f given.first in
      let k : u ≤ 7 = sender_right f x y in
      rw (result, take_at (file_of a u l) (replicate (44032 - length (file_of a u l)) 0) (512 * block_count (length l)) (Written.file_bytes a u l sound few k))
      (Written.read_is a u l sound few k spare base e d)

  -- the other way round it is accepted too, and leaves the same log
  pub merge_either_way : ((merge_of g f log lent).number ≡ 0) × ((merge_of g f log lent).log ≡ (merge_of f g log lent).log)
  unfolding joined_file fault
  merge_either_way =
      let a : List Rec = file_records f in
      let b : List Rec = file_records g in
      let sa = file_sound f given.first in
      let sb = file_sound g given.second in
      let h = files_agree f g given.together given.first in
      let n : length b + length (lacking (vector_of b) a) ≤ 512 =
      omega (arith, union-longer a b, union-longer b a, union_length_exchanged a b sa sb, few) in
      let t : union_fault g f ≡ fault 0 0 = files_faultless g f (sym (archives_one f g given.together)) (agree_exchanged a b h) n in
      let x : Accepted g f log lent =
      record { log_long = given.log_long; lent_long = given.lent_long; first = given.second; second = given.first; together = ap (λ e. e.number) t } in
      rw (accepted_merge g f log lent x, result) (refl, ap log_bytes (sym (union_exchanged a b sa sb h)))

  -- the first file is read into a log and a base, and the second's blocks are taken there one after another: each take answers 0, and they
  -- leave the log that the merge leaves
  pub merge_is_taking : (base : List ℕ) → length base ≡ 43032 → (u : ℕ) → u ≤ 7
      → TakesBlocks (archive_in (block_at f 0)) u (read_of log base f).base g 0 (blocks_in g) (read_of log base f).log (merge_of f g log lent).log
  unfolding joined_file
  merge_is_taking base d u k =
      let a : List Rec = file_records f in
      let b : List Rec = file_records g in
      let (xf, yf) = checked_both f given.first in
      let (xg, yg) = checked_both g given.second in
      let sa = file_sound f given.first in
      let room = files_room f g given.together given.first in
      let t : takes_all 255 no_counts a b ≡ taken (union a b) =
      union_taken a b sa (file_sound g given.second) (files_agree f g given.together given.first) room in
      let (x, y) = read_good f log base xf yf given.log_long d in
      rw (result, x, y, ← archives_one f g given.together)
      (file_taken g xg yg u k empty_base a (union a b) (fresh_good a sa (file_few f given.first)) (sound_back a sa (file_few f given.first)) (rw (empty_list, empty_vector) t))

-- a good file with itself is that file
pub merge_itself : (f log lent : List ℕ) → Bytes f → (checked_fault f).number ≡ 0 → length log ≡ 40960 → length lent ≡ 44032
    → merge_of f f log lent ≡ merged 0 0 0 (blocks_in f) (log_bytes (file_records f)) (padded 44032 f)
unfolding joined_file fault
merge_itself f log lent g z el em =
    let a : List Rec = file_records f in
    let (x, y) = checked_both f z in
    let s = file_sound f z in
    let q : union a a ≡ a = union_itself a s in
    let n : length a + length (lacking (vector_of a) a) ≤ 512 = omega (arith, union-longer a a, ap (λ (l : List Rec). length l) q, file_few f z) in
    let t = files_faultless f f refl (unique [] a s) n in
    rw (
      accepted_merge f f log lent (record { log_long = el; lent_long = em; first = z; second = z; together = ap (λ e. e.number) t }),
      q,
      length-right f x y,
      file_again f x y g,
    )
