-- What each way out of the call returns and leaves, over plain values.
-- Assumes nothing.
use Prim.Native.Nat.{ℕ}
use mathlib.Core.Path.{◌≡◌, sym}
use mathlib.Core.List.{List}
use lib.ListN.{length}
use borrow.Author.Tests.{eq-eqb, ne_eqb}
use Rattle.model.specs.Bytes.{four, put_at}
use Rattle.byte_slice.proofs.PutAt.{put_whole}
use Rattle.plan_model.specs.Plan.{planned, planned_of}
use Rattle.sab_words.specs.Words.{packed}
use Rattle.sab_plan.specs.Told.{plan_told, size_told, told_plan, plan_told_of}

module _ {r : ℕ} (f logs base work text size : List ℕ) where
  pub size_wrong : (length size ≡ 4 → ⊥) → r ≡ packed 1 0 0 → plan_told r logs base work text size ≡ plan_told_of f logs base work text size
  unfolding plan_told_of
  size_wrong a w = rw (ne_eqb (length size) 4 a, w)

  module _ {n p k : ℕ} {logs' base' work' text' : List ℕ} (four_bytes : length size ≡ 4)
      (tried : planned n p k logs' base' work' text' ≡ planned_of f logs base work text) where
    pub not_lent : n ≡ 1 → r ≡ packed 1 0 p → plan_told r logs' base' work' text' size ≡ plan_told_of f logs base work text size
    unfolding plan_told_of told_plan size_told
    not_lent e w = rw (eq-eqb (length size) 4 four_bytes, ← tried, e, w)

    pub tells : {size' : List ℕ} {j : ℕ} → (n ≡ 1 → ⊥) → j ≡ k → size' ≡ put_at size 0 (four j) → r ≡ packed n 0 p
        → plan_told r logs' base' work' text' size' ≡ plan_told_of f logs base work text size
    unfolding plan_told_of told_plan size_told
    tells e i h w = rw (eq-eqb (length size) 4 four_bytes, ← tried, ne_eqb n 1 e, w, h, i, put_whole size (four k) (sym four_bytes))
