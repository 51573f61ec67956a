-- The whole file: how many blocks, one behind another, and the zeros behind them.
-- Assumes nothing.
use Prim.Native.Nat.{ℕ, ◌+◌, ◌-◌, ◌*◌, ◌≤◌, ◌<◌}
use native.Mathlib.Numerals.{add-one}
use native.Mathlib.Omega.{arith}
use mathlib.Core.Path.{◌≡◌, ◌∙◌}
use mathlib.Core.Bool.{true}
use mathlib.Core.List.{List, ◌++◌, append-nil}
use lib.ListN.{length, drop, replicate, length-append, length-replicate}
use lib.Seq.{drop-length}
use Rattle.model.specs.Bytes.{padded, put_at}
use Rattle.model.specs.Log.{records_of, sound_log}
use Rattle.model.specs.File.{block_count, file_block, file_to, file_of}
use Rattle.byte_slice.proofs.PutAt.{put_grows}
use Rattle.block_laws.proofs.Fields.{Sized}
use Rattle.encoding_laws.proofs.Logs.{sound_proper, proper_sized, sound_records, sound_few}
use Rattle.encoding_laws.proofs.Files.{few_blocks, length-file_block, length-file_to}

-- ---- how many blocks

pub few_used : (b : List ℕ) (used : ℕ) → used ≡ length (records_of b) → used ≤ 512
few_used b used e = omega (arith, sound_few b)

pub few : (used n : ℕ) → used ≤ 512 → n ≡ block_count used → n ≤ 86
few used n h e = omega (arith, few_blocks used h)

pub begun : (used n k : ℕ) → n ≡ block_count used → k < n → 6 * k ≤ used
unfolding block_count
begun used n k e h = omega arith

pub all_counted : (b : List ℕ) (used n : ℕ) → used ≡ length (records_of b) → n ≡ block_count used → n ≡ block_count (length (records_of b))
all_counted b used n e f = rw e at f

-- ---- the zeros behind the blocks

pub cleared : (d o : List ℕ) (n : ℕ) → length d ≡ 44032 → o ≡ put_at d (512 * n) (replicate (length d - 512 * n) 0) → o ≡ put_at d (512 * n) (replicate (44032 - 512 * n) 0)
cleared d o n h e = rw h at e

-- ---- the whole file

module _ (a u : ℕ) (b d : List ℕ) (long : length b ≡ 40960) (sound : sound_log b ≡ true) (room : length d ≡ 44032) where
  sized : Sized (records_of b)
  sized = proper_sized (records_of b) (sound_proper (records_of b) (sound_records b sound))

  -- one block more
  pub goes_on_lem : (k n : ℕ) {e s o : List ℕ} → o ≡ put_at e (512 * k) s → s ≡ file_block a u (records_of b) k → e ≡ file_to a u (records_of b) k ++ drop (512 * k) d → k < n → n ≤ 86
      → o ≡ file_to a u (records_of b) (k + 1) ++ drop (512 * (k + 1)) d
  unfolding file_to
  goes_on_lem k n r q p h g =
      let f = file_to a u (records_of b) k in
      let w = file_block a u (records_of b) k in
      let lf : length f ≡ 512 * k = length-file_to a u (records_of b) sized k in
      let lw : length (f ++ w) ≡ 512 * (k + 1) = omega (arith, length-append f w, length-file_block a u (records_of b) sized k) in
      let x : put_at (f ++ drop (512 * k) d) (512 * k) w ≡ (f ++ w) ++ drop (512 * (k + 1)) d = rw (lf, lw) at (put_grows d f w (omega arith)) in
      r ∙ rw (p, q, x, add-one k)

  -- zeros behind the last block
  pub ends : (k n used : ℕ) {e o : List ℕ} → k ≤ n → n ≤ k → n ≤ 86 → n ≡ block_count used → used ≡ length (records_of b) → e ≡ file_to a u (records_of b) k ++ drop (512 * k) d
      → o ≡ put_at e (512 * n) (replicate (44032 - 512 * n) 0) → o ≡ padded 44032 (file_of a u (records_of b))
  unfolding file_of padded
  ends k n used h g m c v p q =
      let f = file_to a u (records_of b) n in
      let z : List ℕ = replicate (44032 - 512 * n) 0 in
      let kn : k ≡ n = omega arith in
      let nc : n ≡ block_count (length (records_of b)) = all_counted b used n v c in
      let lf : length f ≡ 512 * n = length-file_to a u (records_of b) sized n in
      let lz : length (f ++ z) ≡ length d = omega (arith, length-append f z, length-replicate {A = ℕ} (44032 - 512 * n) 0) in
      let x : put_at (f ++ drop (512 * n) d) (512 * n) z ≡ f ++ z = (rw (lf, lz) at (put_grows d f z (omega arith))) ∙ rw (drop-length d, append-nil) in
      q ∙ rw (p, kn, x, ← nc, lf)
