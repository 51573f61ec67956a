-- A call that carries an index does not tell units above 7 apart; and what its word tells, over plain values.
-- Assumes nothing.
use Prim.Native.Nat.{ℕ, suc, ◌+◌, ◌*◌}
use native.Mathlib.Omega.{arith}
use mathlib.Core.Path.{◌≡◌}
use mathlib.Core.Logic.{⊎_elim}
use mathlib.Core.Bool.{Bool, true}
use mathlib.Core.List.{List, []}
use lib.ListN.{length}
use borrow.Author.Tests.{ne_eqb}
use Rattle.model.specs.Log.{records_of}
use Rattle.base_model.specs.Base.{base_vector, tree_of}
use Rattle.call_model.specs.Outcome.{Outcome, guard_number, guarded, stamped, act_lent, act_of}
use Rattle.row_model.specs.Row.{row_fits, take_row_of}
use Rattle.index_model.specs.Acting.{change_in}
use Rattle.index_model.specs.Kept.{Kept, kept, index_fits, kept_of, start_kept, act_kept, act_kept_work, take_kept, take_kept_work, RowKept, row_kept, take_row_kept, take_row_kept_work}
use Rattle.sab_words.specs.Words.{packed, narrowed}
use Rattle.sab_words.specs.Called.{called_both}
use Rattle.sab_words.proofs.Units.{guard_alike, start_alike, act-alike, act_work_alike, take-alike}
use Rattle.sab_index.specs.Told.{told_start, told_kept, told_row_kept}

-- ---- units

-- a refused call leaves the index, whatever it was to become
refused_alike : (fit : Bool) (log lent i : List ℕ) (o : Outcome) (j k : List ℕ) → (o.number ≡ 0 → ⊥) → kept_of fit log lent i o j ≡ kept_of fit log lent i o k
unfolding kept_of
refused_alike fit log lent i o j k z = rw (ne_eqb o.number 0 z)

act_refused : (u : ℕ) (log base w work : List ℕ) {k : ℕ} → guard_number u log base (act_lent w work) true ≡ suc k → (act_of u log base w work).number ≡ 0 → ⊥
unfolding act_of guarded
act_refused u log base w work {k} e z = let y : ◌≡◌ {A = ℕ} (suc k) 0 = rw e at z in omega arith

pub row-alike : (archive u : ℕ) (log base row : List ℕ) → take_row_of archive (narrowed u) log base row ≡ take_row_of archive u log base row
unfolding take_row_of
row-alike archive u log base row =
    let (a, b) = guard_alike u log base true (row_fits (length row)) in
    ⊎_elim (λ n. rw n) (λ (k, q). rw (a, q)) b

module _ (u : ℕ) (log base i : List ℕ) where
  pub start_kept_alike : start_kept (narrowed u) log base i ≡ start_kept u log base i
  unfolding start_kept
  start_kept_alike = rw (start_alike u log base)

  pub act_kept_alike : (w work : List ℕ) → act_kept (narrowed u) log base i w work ≡ act_kept u log base i w work
  unfolding act_kept
  act_kept_alike w work =
      let (a, b) = guard_alike u log base (act_lent w work) true in
      ⊎_elim
      (λ n. rw n)
      (λ (k, q).
      rw (act-alike u log base w work)
      (refused_alike (index_fits i) log [] i (act_of u log base w work)
      (change_in (stamped (narrowed u) (base_vector base) (records_of log) w) (tree_of log base) i)
      (change_in (stamped u (base_vector base) (records_of log) w) (tree_of log base) i)
      (act_refused u log base w work q)))
      b

  pub act_kept_work_alike : (w work : List ℕ) → act_kept_work (narrowed u) log base i w work ≡ act_kept_work u log base i w work
  unfolding act_kept_work
  act_kept_work_alike w work = rw (act_work_alike u log base w work)

  module _ (archive : ℕ) (b work : List ℕ) where
    pub take_kept_alike : take_kept archive (narrowed u) log base i b work ≡ take_kept archive u log base i b work
    unfolding take_kept
    take_kept_alike = rw (take-alike u log base archive b)

    pub take_kept_work_alike : take_kept_work archive (narrowed u) log base i b work ≡ take_kept_work archive u log base i b work
    unfolding take_kept_work
    take_kept_work_alike = rw (take-alike u log base archive b)

    pub row_kept_alike : take_row_kept archive (narrowed u) log base i b work ≡ take_row_kept archive u log base i b work
    unfolding take_row_kept
    row_kept_alike = rw (row-alike archive u log base b)

    pub row_kept_work_alike : take_row_kept_work archive (narrowed u) log base i b work ≡ take_row_kept_work archive u log base i b work
    unfolding take_row_kept_work
    row_kept_work_alike = rw (row-alike archive u log base b)

-- ---- words

pub tells_start : {n p r : ℕ} {log i base : List ℕ} {o : Kept} → kept n p log i base ≡ o → r ≡ packed n p 0 → called_both r log i base ≡ told_start o
unfolding told_start
tells_start e w = rw (← e, w)

pub tells_kept : {n p r : ℕ} {log i lent work x : List ℕ} {o : Kept} → kept n p log i lent ≡ o → work ≡ x → r ≡ packed n p 0 → called_both r log i work ≡ told_kept o x
unfolding told_kept
tells_kept e h w = rw (← e, h, w)

pub tells_row : {n p k s x y r : ℕ} {log i work m : List ℕ} {o : RowKept} → row_kept n p k s log i ≡ o → work ≡ m → x ≡ k → y ≡ s → r ≡ packed n p (x + 256 * y) → called_both r log i work ≡ told_row_kept o m
unfolding told_row_kept
tells_row e h a b w = rw (← e, h, w, a, b)
