-- What taking a block with an index is asked, over plain values.
-- Assumes nothing.
use Prim.Native.Nat.{ℕ}
use mathlib.Core.Path.{◌≡◌, sym, ap, subst, ◌∙◌}
use mathlib.Core.Bool.{Bool, true, false, not}
use mathlib.Core.List.{List, []}
use lib.ListN.{length}
use borrow.Author.Tests.{ne_eqb, not-true}
use Rattle.model.specs.Table.{table_bytes}
use Rattle.base_model.specs.Base.{sound_state, tree_of}
use Rattle.call_model.specs.Outcome.{Outcome, outcome, take_of}
use Rattle.call_laws.specs.Keeps.{Good}
use Rattle.call_laws.proofs.Calls.{take-keeps}
use Rattle.index_model.specs.Kept.{index_of_log, index_lent, both_fit, if_lent, table_if, kept, take_kept, take_kept_work}
use Rattle.keep_lent.proofs.Lent.{fits_by, not_lent, laid_if, left_if, wrong_index, kept_accepted, kept_refused}

-- ---- its ways out

module _ (archive u : ℕ) (log base i b work : List ℕ) {fit : Bool} (e : fit ≡ both_fit i work) where
  pub index_wrong : not fit ≡ true → kept 1 0 log i [] ≡ take_kept archive u log base i b work
  unfolding take_kept
  index_wrong h = wrong_index (both_fit i work) log [] i (take_of archive u log base b) (index_of_log (take_of archive u log base b).log base) fit e h

  pub work_wrong : not fit ≡ true → work ≡ take_kept_work archive u log base i b work
  unfolding take_kept_work
  work_wrong h = rw (not_lent i work (sym e ∙ not-true fit h))

  module _ (h : not fit ≡ false) where
    pub fits : both_fit i work ≡ true
    fits = fits_by fit e h

    module _ {n p : ℕ} {x : List ℕ} (q : outcome n p x [] 0 ≡ take_of archive u log base b) where
      pub renewed : n ≡ 0 → (y : List ℕ) → y ≡ if_lent i (index_of_log x base) → kept n p x y [] ≡ take_kept archive u log base i b work
      unfolding take_kept
      renewed z y w =
          kept_accepted (both_fit i work) log [] i (take_of archive u log base b) (index_of_log (take_of archive u log base b).log base) fits q z y
          (w ∙ ap (λ (o : Outcome). if_lent i (index_of_log o.log base)) q)

      pub not_renewed : (n ≡ 0 → ⊥) → kept n p x i [] ≡ take_kept archive u log base i b work
      unfolding take_kept
      not_renewed z = kept_refused (both_fit i work) log [] i (take_of archive u log base b) (index_of_log (take_of archive u log base b).log base) fits q z

      pub work_renewed : n ≡ 0 → (y : List ℕ) → y ≡ table_if (index_lent i work) x base work → y ≡ take_kept_work archive u log base i b work
      unfolding take_kept_work
      work_renewed z y w = rw (← q, z) (laid_if (index_lent i work) (table_bytes (tree_of x base)) work y w)

      pub work_not_renewed : (n ≡ 0 → ⊥) → work ≡ take_kept_work archive u log base i b work
      unfolding take_kept_work
      work_not_renewed z = rw (← q, ne_eqb n 0 z) (left_if (index_lent i work) (table_bytes (tree_of x base)) work)

-- an accepted take leaves a good state
module _ (archive u : ℕ) (log base b : List ℕ) {n p : ℕ} {x : List ℕ} (q : outcome n p x [] 0 ≡ take_of archive u log base b) (z : n ≡ 0) where
  good : Good x base
  good = subst (λ (o : Outcome). Good o.log base) (sym q) ((take-keeps archive u log base b).accepted (sym (ap (λ (o : Outcome). o.number) q) ∙ z))

  pub taken_long : length x ≡ 40960
  taken_long = good.long.0

  pub base_long : length base ≡ 43032
  base_long = good.long.1

  pub taken_sound : sound_state x base ≡ true
  taken_sound = good.sound
