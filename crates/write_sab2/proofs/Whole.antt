-- The whole file: rows, records, zeros.
-- Assumes nothing.
use Prim.Native.Nat.{ℕ, ◌+◌, ◌-◌, ◌*◌, ◌≤◌}
use native.Mathlib.Omega.{arith}
use mathlib.Core.Path.{◌≡◌, refl, ap, ◌∙◌}
use mathlib.Core.Bool.{true}
use mathlib.Core.List.{List, ◌++◌}
use lib.ListN.{length, replicate, length-append, length-replicate}
use Rattle.model.specs.Bytes.{word, padded, put_at}
use Rattle.model.specs.Vector.{blocks_for}
use Rattle.model.specs.Record.{Rec}
use Rattle.model.specs.Log.{records_of, sound_log_on, vector_on}
use Rattle.model.specs.File.{header_of}
use Rattle.base_model.specs.Base.{base_vector}
use Rattle.run_model.specs.Runs.{letters2, behind, run_to, run_blocks}
use Rattle.byte_slice.proofs.PutAt.{put_more, put_whole}
use Rattle.block_laws.proofs.Fields.{Sized}
use Rattle.run_laws.proofs.Runs.{run_length}
use Rattle.sab2_model.specs.Rows.{row_count, base_rows}
use Rattle.sab2_model.specs.Sab2.{sab2_from, sab2_of, sab2_blocks}
use Rattle.write_sab2.proofs.Placed.{base_sized, length_base_rows, sound_sized}

-- the two runs of a file
sab2_runs : (a u : ℕ) (b h : List ℕ) (l : List Rec) {p n : ℕ} → p ≡ blocks_for (row_count (word b 2) (word b 4)) → n ≡ blocks_for (length l) → h ≡ vector_on (base_vector b) l
    → run_to letters2 (header_of a u 0 h) (base_rows b) p ++ run_to letters2 (header_of a u p h) l n ≡ sab2_of a u b l
unfolding sab2_of sab2_from run_blocks behind header_of
sab2_runs a u b h l {p} {n} hp hn hh =
    let z : 0 + blocks_for (length (base_rows b)) ≡ p = omega (arith, hp, ap blocks_for (length_base_rows b)) in
    let y : blocks_for (length (base_rows b)) ≡ p = omega (arith, hp, ap blocks_for (length_base_rows b)) in
    rw (z, y, hn, hh)

-- one run behind the other, then zeros
pub file_whole : (a u : ℕ) (b h d : List ℕ) (l : List Rec) {p n : ℕ} {d₁ d₂ o : List ℕ} → Sized l → length d ≡ 95232 → p ≡ blocks_for (row_count (word b 2) (word b 4)) → n ≡ blocks_for (length l) → p ≤ 100 → n ≤ 86
    → h ≡ vector_on (base_vector b) l
    → d₁ ≡ put_at d 0 (run_to letters2 (header_of a u 0 h) (base_rows b) p)
    → d₂ ≡ put_at d₁ (512 * p) (run_to letters2 (header_of a u p h) l n)
    → o ≡ put_at d₂ (512 * (p + n)) (replicate (95232 - 512 * (p + n)) 0)
    → o ≡ padded 95232 (sab2_of a u b l)
unfolding padded
file_whole a u b h d l {p} {n} sized long hp hn fp fn hh h₁ h₂ ho =
    let r = run_to letters2 (header_of a u 0 h) (base_rows b) p in
    let s = run_to letters2 (header_of a u p h) l n in
    let z : List ℕ = replicate (95232 - 512 * (p + n)) 0 in
    let lr : length r ≡ 512 * p = run_length letters2 refl (header_of a u 0 h) (base_rows b) (base_sized b) p in
    let ls : length s ≡ 512 * n = run_length letters2 refl (header_of a u p h) l sized n in
    let z₁ : 0 + length r ≡ 512 * p = omega arith in
    let lrs : length (r ++ s) ≡ 512 * (p + n) = omega (arith, length-append r s) in
    let lz : length ((r ++ s) ++ z) ≡ length d = omega (arith, length-append (r ++ s) z, length-replicate {A = ℕ} (95232 - 512 * (p + n)) 0) in
    let z₂ : 0 + length (r ++ s) ≡ 512 * (p + n) = omega arith in
    let g₁ : put_at (put_at d 0 r) (512 * p) s ≡ put_at d 0 (r ++ s) = rw z₁ at (put_more d 0 r s (omega arith)) in
    let g₂ : put_at (put_at d 0 (r ++ s)) (512 * (p + n)) z ≡ put_at d 0 ((r ++ s) ++ z) = rw z₂ at (put_more d 0 (r ++ s) z (omega arith)) in
    let w : r ++ s ≡ sab2_of a u b l = sab2_runs a u b h l hp hn hh in
    ho ∙ rw (h₂, h₁, g₁, g₂, put_whole d ((r ++ s) ++ z) lz, ← w, lrs)

module _ (a u : ℕ) (log b v h d : List ℕ) {e c p n : ℕ} (he : e ≡ word b 2) (hc : c ≡ word b 4) (hp : p ≡ blocks_for (row_count e c)) (hn : n ≡ blocks_for (length (records_of log))) where
  pub state_whole : {d₁ d₂ o : List ℕ} → sound_log_on v log ≡ true → length d ≡ 95232 → length d₂ ≡ 95232 → p ≤ 100 → n ≤ 86 → h ≡ vector_on (base_vector b) (records_of log)
      → d₁ ≡ put_at d 0 (run_to letters2 (header_of a u 0 h) (base_rows b) p)
      → d₂ ≡ put_at d₁ (512 * p) (run_to letters2 (header_of a u p h) (records_of log) n)
      → o ≡ put_at d₂ (512 * (p + n)) (replicate (length d₂ - 512 * (p + n)) 0)
      → o ≡ padded 95232 (sab2_of a u b (records_of log))
  state_whole sound long long₂ fp fn hh h₁ h₂ ho = file_whole a u b h d (records_of log) (sound_sized v log sound) long (rw (he, hc) at hp) hn fp fn hh h₁ h₂ (rw long₂ at ho)

  pub state_blocks : p + n ≡ sab2_blocks b (records_of log)
  unfolding sab2_blocks
  state_blocks = rw (← he, ← hc, hp, hn)
