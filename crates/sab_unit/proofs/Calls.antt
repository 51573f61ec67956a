-- What each way out of a call returns and leaves, over plain values.
-- Assumes nothing.
use Prim.Native.Nat.{ℕ}
use mathlib.Core.Path.{◌≡◌, ◌∙◌}
use mathlib.Core.List.{List}
use Rattle.index_model.specs.Kept.{kept, start_kept, act_kept, act_kept_work}
use Rattle.sab_words.specs.Words.{packed, narrowed}
use Rattle.sab_words.specs.Called.{called_both}
use Rattle.sab_index.specs.Told.{told_start, told_kept}
use Rattle.sab_index.proofs.Alike.{start_kept_alike, act_kept_alike, act_kept_work_alike, tells_start, tells_kept}

module _ (u : ℕ) {v r n p : ℕ} (log base i : List ℕ) {log' j : List ℕ} (given : v ≡ narrowed u) (w : r ≡ packed n p 0) where
  pub starts : {base' : List ℕ} → kept n p log' j base' ≡ start_kept v log base i → called_both r log' j base' ≡ told_start (start_kept u log base i)
  starts e = tells_start (e ∙ rw given (start_kept_alike u log base i)) w

  pub acts : (wish work : List ℕ) {lent work' : List ℕ} → kept n p log' j lent ≡ act_kept v log base i wish work → work' ≡ act_kept_work v log base i wish work
      → called_both r log' j work' ≡ told_kept (act_kept u log base i wish work) (act_kept_work u log base i wish work)
  acts wish work e h =
      tells_kept (e ∙ rw given (act_kept_alike u log base i wish work)) (h ∙ rw given (act_kept_work_alike u log base i wish work)) w
