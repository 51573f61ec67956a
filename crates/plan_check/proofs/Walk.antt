-- The blocks of a plan: each as a part of it, and block after block.
-- Assumes nothing.
use Prim.Native.Nat.{ℕ, suc, ◌+◌, ◌-◌, ◌*◌, ◌/◌, ◌≤◌, ◌<◌}
use native.Mathlib.Numerals.{add-one}
use native.Mathlib.Omega.{arith}
use mathlib.Core.Path.{◌≡◌, sym, ap, ◌∙◌}
use mathlib.Core.Logic.{⊎_elim}
use mathlib.Core.Bool.{cond}
use mathlib.Core.List.{List}
use lib.Dec.{eqb}
use lib.ListN.{length, take, drop, length-drop}
use lib.Seq.{take_all}
use borrow.Author.Tests.{eq-eqb, ne_eqb, le-leb, lt-leb}
use Rattle.model.specs.Bytes.{part}
use Rattle.model.specs.Block.{archive_in}
use Rattle.model.specs.File.{fault, block_at}
use Rattle.byte_slice.proofs.Numbers.{lt_or_ge}
use Rattle.byte_slice.proofs.Parts.{part_is}
use Rattle.plan_model.specs.Plan.{piece_fault, piece_fault_at, pieces, plan_archive, plan_fault_from, plan_fault}
use Rattle.plan_block.proofs.Blocks.{too_many}

-- ---- the archive

pub no_archive : (f : List ℕ) → length f < 512 → 0 ≡ plan_archive f
unfolding plan_archive
no_archive f h = rw (lt-leb 512 (length f) h)

pub first_archive : (f : List ℕ) {a : ℕ} → 512 ≤ length f → a ≡ archive_in (take (512 - 0) (drop 0 f)) → a ≡ plan_archive f
unfolding plan_archive block_at part
first_archive f h e = e ∙ rw (le-leb 512 (length f) h)

-- ---- a block

module _ (f : List ℕ) (archive k : ℕ) {x : ℕ} where
  pub last_part : length f - 512 * k < 512 → x ≡ piece_fault archive k (take (length f - 512 * k) (drop (512 * k) f)) → x ≡ piece_fault archive k (block_at f k)
  unfolding block_at part
  last_part h e =
      let n = length-drop (512 * k) f in
      e ∙ ap (piece_fault archive k) (take_all (length f - 512 * k) (drop (512 * k) f) (omega arith) ∙ sym (take_all 512 (drop (512 * k) f) (omega arith)))

  pub whole_part : x ≡ piece_fault archive k (take (512 * k + 512 - 512 * k) (drop (512 * k) f)) → x ≡ piece_fault archive k (block_at f k)
  unfolding block_at
  whole_part e = rw (part_is f (512 * k) 512) at e

-- ---- its place

pub no_place : (x k : ℕ) → x ≡ 2 → fault x 0 ≡ piece_fault_at x k
no_place x k h = rw (eq-eqb x 2 h)

pub own_place : (x k : ℕ) → (x ≡ 2 → ⊥) → fault x k ≡ piece_fault_at x k
own_place x k h = rw (ne_eqb x 2 h)

-- a block that passes stands before the 4,097th
pub low_on : (archive k : ℕ) (b : List ℕ) {x : ℕ} → x ≡ piece_fault archive k b → x ≡ 0 → k + 1 ≤ 4096
low_on archive k b e z =
    ⊎_elim
    (λ (l : k < 4096). omega arith)
    (λ (l : 4096 ≤ k). absurd (let h : ◌≡◌ {A = ℕ} 2 0 = too_many archive k b l ∙ sym e ∙ z in omega arith))
    (lt_or_ge k 4096)

-- ---- block after block

module _ (f : List ℕ) (archive n k : ℕ) (own : archive ≡ plan_archive f) (inv : plan_fault_from f k (n - k) ≡ plan_fault_from f 0 n) (all : n ≡ (length f + 511) / 512) where
  module _ {x : ℕ} (h : k < n) (ex : x ≡ piece_fault archive k (block_at f k)) where
    step : cond (eqb x 0) (plan_fault_from f (k + 1) (n - (k + 1))) (piece_fault_at x k) ≡ plan_fault_from f 0 n
    unfolding plan_fault_from
    step =
        let e : n - k ≡ suc (n - (k + 1)) = omega arith in
        let g : x ≡ piece_fault (plan_archive f) k (block_at f k) = rw own at ex in
        rw (e, ← g, ← add-one k) at inv

    pub stops : (m p : ℕ) → (x ≡ 0 → ⊥) → fault m p ≡ piece_fault_at x k → fault m p ≡ plan_fault f
    unfolding plan_fault pieces
    stops m p z e = e ∙ (rw (ne_eqb x 0 z, all) at step)

    pub goes_on_lem : x ≡ 0 → plan_fault_from f (k + 1) (n - (k + 1)) ≡ plan_fault_from f 0 n
    goes_on_lem z = rw (eq-eqb x 0 z) at step

  pub ends : k ≤ n → n ≤ k → fault 0 0 ≡ plan_fault f
  unfolding plan_fault plan_fault_from pieces
  ends l g = let e : n - k ≡ 0 = omega arith in rw (e, all) at inv
