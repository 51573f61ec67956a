-- The blocks of a file with the letters t and r rows pass its checks exactly if each agrees with its place and the first block.
-- Assumes nothing.
use Prim.Native.Nat.{ℕ, zero, suc, ◌+◌, ◌-◌, ◌≤◌, ◌<◌}
use native.Mathlib.Omega.{arith}
use mathlib.Core.Path.{◌≡◌, refl, sym}
use mathlib.Core.Logic.{⊎_elim}
use mathlib.Core.Bool.{true, false, ◌&&◌}
use mathlib.Core.List.{List}
use lib.Dec.{eqb}
use lib.ListN.{take}
use lib.Seq.{take-take}
use borrow.Author.Tests.{eqb-true, eqb-false, eq-eqb}
use Rattle.model.specs.Bytes.{same_bytes, part}
use Rattle.model.specs.Block.{archive_in, sender_in, place_in, count_in, vector_in}
use Rattle.model.specs.File.{blocks_in, block_at, fault}
use Rattle.run_model.specs.Runs.{block_fault_as}
use Rattle.run_model.specs.Blocks.{count_fits_as, agrees_as, file_block_fault_as, blocks_fault_as}
use Rattle.byte_slice.proofs.Numbers.{bool_cases, eq_or_ne, and_true}
use Rattle.byte_slice.proofs.Compare.{same_eq, same_refl}
use Rattle.block_laws.proofs.Faults.{three_passed}
use Rattle.run_laws.specs.Fits.{Agreeing}

module _ (t : List ℕ) (r : ℕ) (f : List ℕ) where
  pub blocks_passed : (n k : ℕ) → (blocks_fault_as t r f k n).number ≡ 0 → (j : ℕ) → k ≤ j → j < k + n → file_block_fault_as t r f j ≡ 0
  unfolding blocks_fault_as fault
  blocks_passed zero k e j a b = absurd (omega arith)
  blocks_passed (suc n) k e j a b =
      ⊎_elim
      (λ (h : eqb (file_block_fault_as t r f k) 0 ≡ true).
      ⊎_elim
      (λ (q : k ≡ j). rw (sym q) (eqb-true (file_block_fault_as t r f k) 0 h))
      (λ (q : k ≡ j → ⊥). blocks_passed n (suc k) (rw h at e) j (omega arith) (omega arith))
      (eq_or_ne k j))
      (λ (h : eqb (file_block_fault_as t r f k) 0 ≡ false). let z : file_block_fault_as t r f k ≡ 0 = rw h at e in absurd (eqb-false (file_block_fault_as t r f k) 0 h z))
      (bool_cases (eqb (file_block_fault_as t r f k) 0))

  pub block_passed : (k : ℕ) → file_block_fault_as t r f k ≡ 0 → Agreeing t r f k
  unfolding file_block_fault_as agrees_as
  block_passed k e =
      ⊎_elim
      (λ (h : eqb (block_fault_as t b) 0 ≡ true).
      ⊎_elim
      (λ (a : agrees_as r n k o b ≡ true).
      let (p, a₁) = and_true (eqb (place_in b) k) (eqb (sender_in b) (sender_in o) && (eqb (archive_in b) (archive_in o) && (same_bytes (vector_in b) (vector_in o) && count_fits_as r n k (count_in b)))) a in
      let (q, a₂) = and_true (eqb (sender_in b) (sender_in o)) (eqb (archive_in b) (archive_in o) && (same_bytes (vector_in b) (vector_in o) && count_fits_as r n k (count_in b))) a₁ in
      let (x, a₃) = and_true (eqb (archive_in b) (archive_in o)) (same_bytes (vector_in b) (vector_in o) && count_fits_as r n k (count_in b)) a₂ in
      let (s, y) = and_true (same_bytes (vector_in b) (vector_in o)) (count_fits_as r n k (count_in b)) a₃ in
      record {
        good = eqb-true (block_fault_as t b) 0 h;
        placed = eqb-true (place_in b) k p;
        sent = eqb-true (sender_in b) (sender_in o) q;
        archived = eqb-true (archive_in b) (archive_in o) x;
        vectored = same_eq (vector_in b) (vector_in o) s;
        filled = y;
      })
      (λ (a : agrees_as r n k o b ≡ false). let z : ◌≡◌ {A = ℕ} 20 0 = rw (h, a) at e in absurd (omega arith))
      (bool_cases (agrees_as r n k o b)))
      (λ (h : eqb (block_fault_as t b) 0 ≡ false). let z : block_fault_as t b ≡ 0 = rw h at e in absurd (eqb-false (block_fault_as t b) 0 h z))
      (bool_cases (eqb (block_fault_as t b) 0))
    where
      b : List ℕ
      b = block_at f k

      o : List ℕ
      o = block_at f 0

      n : ℕ
      n = blocks_in f

  agreeing_passes : (k : ℕ) → Agreeing t r f k → file_block_fault_as t r f k ≡ 0
  unfolding file_block_fault_as agrees_as
  agreeing_passes k A =
      rw (
        A.good,
        eq-eqb (place_in (block_at f k)) k A.placed,
        eq-eqb (sender_in (block_at f k)) (sender_in (block_at f 0)) A.sent,
        eq-eqb (archive_in (block_at f k)) (archive_in (block_at f 0)) A.archived,
        A.vectored,
        same_refl (vector_in (block_at f 0)),
        A.filled,
      )

  pub all_pass : (n k : ℕ) → ((j : ℕ) → k ≤ j → j < k + n → Agreeing t r f j) → blocks_fault_as t r f k n ≡ fault 0 0
  unfolding blocks_fault_as
  all_pass zero k a = refl
  all_pass (suc n) k a = rw (agreeing_passes k (a k (omega arith) (omega arith))) (all_pass n (suc k) (λ j x y. a j (omega arith) (omega arith)))

-- a file begins with the letters of its first block
pub begins_with : (t f : List ℕ) → block_fault_as t (block_at f 0) ≡ 0 → same_bytes (take 4 f) t ≡ true
unfolding block_at part
begins_with t f e = rw (take-take 4 512 f (omega arith)) at (three_passed t (block_at f 0) e).0
