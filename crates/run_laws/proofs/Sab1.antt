-- An SAB1 file is the case without rows: its blocks are one run with the letters SAB1, and its checks of blocks are those of no rows.
-- Assumes nothing.
use Prim.Native.Nat.{ℕ, zero, suc, ◌+◌, ◌-◌, ◌*◌, ◌≤◌, ◌<◌}
use native.Mathlib.Omega.{arith}
use mathlib.Core.Path.{◌≡◌, refl, sym, ap, ◌∙◌}
use mathlib.Core.Logic.{inl, inr, ⊎_elim}
use mathlib.Core.List.{List, [], ◌++◌}
use lib.ListN.{take, drop}
use borrow.Author.Tests.{le-ltb}
use Rattle.model.specs.Vector.{blocks_for}
use Rattle.model.specs.Record.{Rec}
use Rattle.model.specs.Log.{vector_of}
use Rattle.model.specs.Block.{Header, letters, block_of, count_in}
use Rattle.model.specs.File.{block_count, header_of, file_block, file_to, blocks_in, block_at, count_fits, agrees, file_block_fault, blocks_fault}
use Rattle.run_model.specs.Runs.{block_as, behind, run_block, run_to}
use Rattle.run_model.specs.Blocks.{count_fits_as, agrees_as, file_block_fault_as, blocks_fault_as}
use Rattle.byte_slice.proofs.Numbers.{lt_or_ge}
use Rattle.block_laws.proofs.Fields.{block_sab1}
use Rattle.block_laws.proofs.Faults.{fault_sab1}
use Rattle.run_laws.specs.Fits.{Holds}

-- ---- the checks

count_sab1 : (n k c : ℕ) → count_fits n k c ≡ count_fits_as 0 n k c
unfolding count_fits_as blocks_for
count_sab1 n k c = rw (le-ltb k 0 (omega arith))

agrees_sab1 : (n k : ℕ) (first b : List ℕ) → agrees n k first b ≡ agrees_as 0 n k first b
unfolding agrees agrees_as
agrees_sab1 n k first b = rw (count_sab1 n k (count_in b))

pub block_fault_sab1 : (f : List ℕ) (k : ℕ) → file_block_fault f k ≡ file_block_fault_as letters 0 f k
unfolding file_block_fault file_block_fault_as
block_fault_sab1 f k = rw (fault_sab1 (block_at f k), agrees_sab1 (blocks_in f) k (block_at f 0) (block_at f k))

pub blocks_fault_sab1 : (f : List ℕ) (n k : ℕ) → blocks_fault f k n ≡ blocks_fault_as letters 0 f k n
unfolding blocks_fault blocks_fault_as
blocks_fault_sab1 f zero k = refl
blocks_fault_sab1 f (suc n) k = rw (block_fault_sab1 f k, blocks_fault_sab1 f n (suc k))

-- ---- the run

pub block_run : (archive u : ℕ) (v : List ℕ) (k : ℕ) (some : List Rec) → block_as letters (behind (header_of archive u 0 v) k) some ≡ block_of (header_of archive u k v) some
unfolding behind header_of
block_run archive u v k some =
    let e : 0 + k ≡ k = omega arith in
    (λ i. block_as letters (record { archive = archive; sender = u; place = e i; vector = v }) some) ∙ sym (block_sab1 (header_of archive u k v) some)

pub to_run : (archive u : ℕ) (l : List Rec) (n : ℕ) → file_to archive u l n ≡ run_to letters (header_of archive u 0 (vector_of l)) l n
unfolding file_to file_block run_to run_block
to_run archive u l zero = refl
to_run archive u l (suc n) = λ i. to_run archive u l n i ++ sym (block_run archive u (vector_of l) n (take 6 (drop (6 * n) l))) i

-- behind no block of rows
pub behind-none : (h : Header) → behind h (blocks_for 0) ≡ h
unfolding behind blocks_for
behind-none h = let e : h.place + 0 ≡ h.place = omega arith in λ i. record { archive = h.archive; sender = h.sender; place = e i; vector = h.vector }

pub no_rows_run : (t : List ℕ) (h : Header) (l : List Rec) (n : ℕ) → run_to t h [] (blocks_for 0) ++ run_to t (behind h (blocks_for 0)) l n ≡ run_to t h l n
unfolding blocks_for run_to
no_rows_run t h l n = ap (λ (x : Header). run_to t x l n) (behind-none h)

-- ---- how many blocks

-- so many blocks hold so many records
pub count-holds : (m : ℕ) → Holds 0 m (block_count m)
unfolding block_count
count-holds m =
    record {
      some = omega arith;
      all = omega arith;
      tight = ⊎_elim (λ (h : m < 1). inr (refl, omega arith)) (λ (h : 1 ≤ m). inl (omega arith)) (lt_or_ge m 1);
    }

pub holds-count : (m q : ℕ) → Holds 0 m q → block_count m ≡ q
unfolding block_count blocks_for
holds-count m q H = ⊎_elim (λ (x : 6 * q < m + 6). omega (arith, H.all, H.some)) (λ (x : (0 ≡ 0) × (q ≡ 1)). omega (arith, H.all, x.1)) H.tight
