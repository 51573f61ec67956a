-- Records that stand in blocks, written in blocks anew.
-- Assumes nothing.
use Prim.Native.Nat.{ℕ, zero, suc, ◌+◌, ◌-◌, ◌*◌, ◌/◌, ◌%◌, ◌≤◌, ◌<◌, min}
use native.Mathlib.Omega.{arith}
use mathlib.Core.Path.{◌≡◌, sym, ◌∙◌}
use mathlib.Core.List.{List, ◌++◌}
use lib.ListN.{length, take, drop, replicate, length-append, length-replicate}
use Rattle.model.specs.Bytes.{part, padded, put_at, joined}
use Rattle.model.specs.Record.{Rec}
use Rattle.model.specs.Block.{Header, sealed}
use Rattle.model.specs.File.{block_count, header_of, records_counted, file_record, file_records_from, file_records}
use Rattle.run_model.specs.Runs.{head_as, body_as, block_as, behind, run_block, run_to}
use Rattle.byte_slice.proofs.Parts.{part_is, part_none, part_split, part_length}
use Rattle.byte_slice.proofs.PutAt.{put_more, put_whole}
use Rattle.block_laws.proofs.Fields.{Sized}
use Rattle.run_laws.proofs.Records.{length-file_records, take-file_records, drop-file_records}
use Rattle.run_laws.proofs.Runs.{run_length}
use Rattle.write_file_blocks.proofs.Blocks.{take_six}
use Rattle.write_sab2.proofs.Placed.{run_more}

-- ---- records in blocks

-- those of one block lie one behind another
joined_records : (f : List ℕ) (k c j : ℕ) → j + c ≤ 6 → joined (file_records_from f (6 * k + j) c) ≡ part f (512 * k + (28 + 80 * j)) (80 * c)
unfolding joined file_records_from file_record
joined_records f k zero j h = sym (part_none f (512 * k + (28 + 80 * j)))
joined_records f k (suc c) j h =
    let q : (6 * k + j) / 6 ≡ k = omega arith in
    let r : (6 * k + j) % 6 ≡ j = omega arith in
    let s : suc (6 * k + j) ≡ 6 * k + suc j = omega arith in
    let m : 80 * suc c ≡ 80 + 80 * c = omega arith in
    let n : 512 * k + (28 + 80 * suc j) ≡ 512 * k + (28 + 80 * j) + 80 = omega arith in
    rw (q, r, s, m, joined_records f k c (suc j) (omega arith), n) (sym (part_split f (512 * k + (28 + 80 * j)) 80 (80 * c)))

-- each has 80 bytes
sized_from : (f : List ℕ) (m i : ℕ) → i + m ≤ 6 * (length f / 512) → Sized (file_records_from f i m)
unfolding file_records_from file_record
sized_from f zero i h = tt
sized_from f (suc m) i h = (part_length f (512 * (i / 6) + (28 + 80 * (i % 6))) 80 (omega arith), sized_from f m (suc i) (omega arith))

pub records_sized : (f : List ℕ) (total : ℕ) → total ≡ records_counted f → total ≤ 6 * (length f / 512) → Sized (file_records f)
unfolding file_records
records_sized f total e h = rw (← e) (sized_from f total 0 (omega arith))

-- ---- block k of them

module _ (f h : List ℕ) (t : List ℕ) (a u p k total n : ℕ) (et : total ≡ records_counted f) (en : n ≡ min 6 (total - 6 * k)) where
  six_are : take 6 (drop (6 * k) (file_records f)) ≡ file_records_from f (6 * k) n
  unfolding file_records
  six_are =
      let z : 0 + 6 * k ≡ 6 * k = omega arith in
      let l : List Rec = file_records_from f (6 * k) (total - 6 * k) in
      rw (← et, drop-file_records f 0 total (6 * k), z) (take_six l n (en ∙ rw (length-file_records f (6 * k) (total - 6 * k))) ∙ take-file_records f (6 * k) (total - 6 * k) n (omega arith))

  pub none_recast : {o : List ℕ} → n ≡ 0 → o ≡ sealed (head_as t (record { archive = a; sender = u; place = p + k; vector = h }) 0 ++ padded 480 (take (0 - 0) (drop 0 f)))
      → o ≡ run_block t (header_of a u p h) (file_records f) k
  unfolding run_block block_as body_as behind header_of file_records_from joined
  none_recast z e = e ∙ rw (six_are, z)

  pub some_recast : {o : List ℕ} → o ≡ sealed (head_as t (record { archive = a; sender = u; place = p + k; vector = h }) n ++ padded 480 (take (512 * k + 28 + 80 * n - (512 * k + 28)) (drop (512 * k + 28) f)))
      → o ≡ run_block t (header_of a u p h) (file_records f) k
  unfolding run_block block_as body_as behind header_of
  some_recast e =
      let z : 6 * k + 0 ≡ 6 * k = omega arith in
      let y : 512 * k + (28 + 80 * 0) ≡ 512 * k + 28 = omega arith in
      let j : joined (file_records_from f (6 * k) n) ≡ part f (512 * k + 28) (80 * n) = rw (z, y) at (joined_records f k n 0 (omega arith)) in
      e ∙ rw (six_are, length-file_records f (6 * k) n, j, part_is f (512 * k + 28) (80 * n))

-- ---- one after another

pub recast_begun : (total k n : ℕ) → n ≤ block_count total → k < n → 6 * k ≤ total
unfolding block_count
recast_begun total k n h g = omega arith

pub recast_fits : (f : List ℕ) (total k n : ℕ) → total ≤ 6 * (length f / 512) → n ≡ min 6 (total - 6 * k) → (n ≡ 0 → ⊥) → 512 * k + 28 + 80 * n ≤ length f
recast_fits f total k n h e z = omega arith

pub recast_more : (f t h d : List ℕ) (a u p k total m : ℕ) {e s o : List ℕ} → o ≡ put_at e (512 * (p + k)) s → s ≡ run_block t (header_of a u p h) (file_records f) k
    → e ≡ put_at d (512 * p) (run_to t (header_of a u p h) (file_records f) k) → length t ≡ 4 → total ≡ records_counted f → total ≤ 6 * (length f / 512) → k < m → 512 * (p + m) ≤ length d
    → o ≡ put_at d (512 * p) (run_to t (header_of a u p h) (file_records f) (k + 1))
recast_more f t h d a u p k total m ho hs he four et few some room =
    run_more t (header_of a u p h) (file_records f) d p k four (records_sized f total et few) (omega arith) he hs ho

-- ---- a run that is all of a file, with zeros behind it

pub run-whole : (t : List ℕ) (h : Header) (l : List Rec) (d : List ℕ) (z m : ℕ) {d₁ o : List ℕ} → length t ≡ 4 → Sized l → length d ≡ z → 512 * m ≤ z
    → d₁ ≡ put_at d 0 (run_to t h l m) → o ≡ put_at d₁ (512 * m) (replicate (z - 512 * m) 0) → o ≡ padded z (run_to t h l m)
unfolding padded
run-whole t h l d z m four sized long few h₁ ho =
    let r = run_to t h l m in
    let n : List ℕ = replicate (z - 512 * m) 0 in
    let lr : length r ≡ 512 * m = run_length t four h l sized m in
    let z₁ : 0 + length r ≡ 512 * m = omega arith in
    let lz : length (r ++ n) ≡ length d = omega (arith, length-append r n, length-replicate {A = ℕ} (z - 512 * m) 0) in
    let g : put_at (put_at d 0 r) (512 * m) n ≡ put_at d 0 (r ++ n) = rw z₁ at (put_more d 0 r n (omega arith)) in
    ho ∙ rw (h₁, g, put_whole d (r ++ n) lz, lr)
