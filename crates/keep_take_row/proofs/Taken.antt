-- What taking a row of blocks with an index is asked, over plain values.
-- Assumes nothing.
use Prim.Native.Nat.{ℕ, zero, suc}
use mathlib.Core.Path.{◌≡◌, refl, sym, ap, subst, ◌∙◌}
use mathlib.Core.Bool.{Bool, true, false, not}
use mathlib.Core.List.{List}
use lib.ListN.{length}
use borrow.Author.Tests.{ne_eqb, not-true}
use Rattle.model.specs.Table.{table_bytes}
use Rattle.base_model.specs.Base.{sound_state, tree_of}
use Rattle.call_model.specs.Outcome.{guard_number}
use Rattle.row_model.specs.Row.{row_fits, try_all, RowTaken, row_taken, took_row, take_row_of}
use Rattle.call_laws.specs.Keeps.{Good}
use Rattle.call_laws.proofs.Calls.{guard_good}
use Rattle.row_laws.proofs.Stops.{row_good}
use Rattle.index_model.specs.Kept.{index_of_log, index_lent, both_fit, if_lent, table_if, row_kept, take_row_kept, take_row_kept_work}
use Rattle.keep_lent.proofs.Lent.{fits_by, not_lent, laid_if, left_if, wrong_index_row, row_renewed, row-left}

-- ---- its ways out

module _ (archive u : ℕ) (log base i row work : List ℕ) {fit : Bool} (e : fit ≡ both_fit i work) where
  pub index_wrong : not fit ≡ true → row_kept 1 0 0 0 log i ≡ take_row_kept archive u log base i row work
  unfolding take_row_kept
  index_wrong h = wrong_index_row (both_fit i work) log base i (take_row_of archive u log base row) fit e h

  pub work_wrong : not fit ≡ true → work ≡ take_row_kept_work archive u log base i row work
  unfolding take_row_kept_work
  work_wrong h = rw (not_lent i work (sym e ∙ not-true fit h))

  module _ (h : not fit ≡ false) where
    pub fits : both_fit i work ≡ true
    fits = fits_by fit e h

    module _ {n p t s : ℕ} {x : List ℕ} (q : row_taken n p t s x ≡ take_row_of archive u log base row) where
      pub renewed : (t ≡ 0 → ⊥) → (y : List ℕ) → y ≡ if_lent i (index_of_log x base) → row_kept n p t s x y ≡ take_row_kept archive u log base i row work
      unfolding take_row_kept
      renewed z y w = row_renewed (both_fit i work) log base i (take_row_of archive u log base row) fits q z y w

      pub not_renewed : t ≡ 0 → row_kept n p t s x i ≡ take_row_kept archive u log base i row work
      unfolding take_row_kept
      not_renewed z = row-left (both_fit i work) log base i (take_row_of archive u log base row) fits q z

      pub work_renewed : (t ≡ 0 → ⊥) → (y : List ℕ) → y ≡ table_if (index_lent i work) x base work → y ≡ take_row_kept_work archive u log base i row work
      unfolding take_row_kept_work
      work_renewed z y w = rw (← q, ne_eqb t 0 z) (laid_if (index_lent i work) (table_bytes (tree_of x base)) work y w)

      pub work_not_renewed : t ≡ 0 → work ≡ take_row_kept_work archive u log base i row work
      unfolding take_row_kept_work
      work_not_renewed z = rw (← q, z) (left_if (index_lent i work) (table_bytes (tree_of x base)) work)

-- ---- a row of which a block was taken leaves a good state

module _ (archive u : ℕ) (log base row : List ℕ) {n p t s : ℕ} {x : List ℕ} (q : row_taken n p t s x ≡ take_row_of archive u log base row) (z : t ≡ 0 → ⊥) where
  good : Good x base
  unfolding take_row_of
  good = go (guard_number u log base true (row_fits (length row))) refl q
    where
      go : (m : ℕ) → guard_number u log base true (row_fits (length row)) ≡ m → row_taken n p t s x ≡ took_row m log (try_all archive u log base row) → Good x base
      go zero a w =
          let (_, b, _, g) = guard_good u log base true (row_fits (length row)) a in
          subst (λ (y : List ℕ). Good y base) (sym (ap (λ (o : RowTaken). o.log) w)) (row_good archive u log base row b g)
      go (suc m) a w = absurd (z (ap (λ (o : RowTaken). o.taken) w))

  pub taken_long : length x ≡ 40960
  taken_long = good.long.0

  pub base_long : length base ≡ 43032
  base_long = good.long.1

  pub taken_sound : sound_state x base ≡ true
  taken_sound = good.sound
