-- What a call that carries an index answers and leaves, by its ways out.
-- Assumes nothing.
use Prim.Native.Nat.{ℕ}
use mathlib.Core.Path.{◌≡◌, refl, sym, ◌∙◌}
use mathlib.Core.Bool.{Bool, true, false, cond, not, ◌&&◌, ◌||◌, false≢true}
use mathlib.Core.List.{List}
use lib.Dec.{eqb}
use lib.ListN.{length}
use borrow.Author.Tests.{eqb-true, eq-eqb, ne_eqb, not-true, not-false}
use Rattle.byte_slice.proofs.Numbers.{and_true}
use Rattle.model.specs.Lengths.{tree_size}
use Rattle.call_model.specs.Outcome.{Outcome, outcome}
use Rattle.row_model.specs.Row.{RowTaken, row_taken}
use Rattle.index_model.specs.Index.{index_size}
use Rattle.index_model.specs.Kept.{index_of_log, index_lent, index_fits, both_fit, if_lent, kept, kept_of, row_kept, row_kept_of}

-- ---- the two lengths

pub fits_by : {fit : Bool} (b : Bool) → b ≡ fit → not b ≡ false → fit ≡ true
fits_by b e h = sym e ∙ not-false b h

pub lent_long : (i : List ℕ) → index_fits i ≡ true → (length i ≡ 0 → ⊥) → length i ≡ index_size
unfolding index_fits
lent_long i f h = eqb-true (length i) index_size (rw (ne_eqb (length i) 0 h) at f)

-- ---- an index and memory to work in

or_none : (a b : Bool) → (a || b) ≡ false → b ≡ false
or_none true b h = absurd (false≢true (sym h))
or_none false b h = h

pub not_lent : (i work : List ℕ) → both_fit i work ≡ false → index_lent i work ≡ false
unfolding both_fit
not_lent i work h = or_none (eqb (length i) 0 && eqb (length work) 0) (index_lent i work) h

pub none_both : (i work : List ℕ) → length i ≡ 0 → index_lent i work ≡ false
none_both i work h = rw h

module _ (i work : List ℕ) (f : both_fit i work ≡ true) (h : length i ≡ 0 → ⊥) where
  pub both_lent : index_lent i work ≡ true
  unfolding both_fit
  both_lent = rw (ne_eqb (length i) 0 h) at f

  pub both_index : length i ≡ index_size
  both_index = eqb-true (length i) index_size (and_true (eqb (length i) index_size) (eqb (length work) tree_size) both_lent).0

  pub both_work : length work ≡ tree_size
  both_work = eqb-true (length work) tree_size (and_true (eqb (length i) index_size) (eqb (length work) tree_size) both_lent).1

-- ---- what becomes of a lent index

pub none_lent : (i x : List ℕ) → length i ≡ 0 → i ≡ if_lent i x
unfolding if_lent
none_lent i x h = rw (eq-eqb (length i) 0 h)

pub is_lent : (i x y : List ℕ) → (length i ≡ 0 → ⊥) → y ≡ x → y ≡ if_lent i x
unfolding if_lent
is_lent i x y h e = rw (ne_eqb (length i) 0 h) e

same_cond : (b : Bool) (i : List ℕ) → i ≡ cond b i i
same_cond true i = refl
same_cond false i = refl

pub lent_same : (i : List ℕ) → i ≡ if_lent i i
unfolding if_lent
lent_same i = same_cond (eqb (length i) 0) i

-- the memory to work in, where the index is made afresh, and where it is not
pub laid_if : (t : Bool) (table work y : List ℕ) → y ≡ cond t table work → y ≡ cond (t && true) table work
laid_if true table work y e = e
laid_if false table work y e = e

pub left_if : (t : Bool) (table work : List ℕ) → work ≡ cond (t && false) table work
left_if true table work = refl
left_if false table work = refl

-- ---- a call's ways out

module _ (fit : Bool) (log lent i : List ℕ) (o : Outcome) (j : List ℕ) where
  pub wrong_index : (b : Bool) → b ≡ fit → not b ≡ true → kept 1 0 log i lent ≡ kept_of fit log lent i o j
  unfolding kept_of
  wrong_index b e h = rw (← e, not-true b h)

  module _ (f : fit ≡ true) {n p k : ℕ} {x z : List ℕ} (e : outcome n p x z k ≡ o) where
    pub kept_accepted : n ≡ 0 → (y : List ℕ) → y ≡ if_lent i j → kept n p x y z ≡ kept_of fit log lent i o j
    unfolding kept_of
    kept_accepted a y q = rw (f, ← e, a, q)

    pub kept_refused : (n ≡ 0 → ⊥) → kept n p x i z ≡ kept_of fit log lent i o j
    unfolding kept_of
    kept_refused a = rw (f, ← e, ne_eqb n 0 a)

-- ---- and those of a row

module _ (fit : Bool) (log base i : List ℕ) (o : RowTaken) where
  pub wrong_index_row : (b : Bool) → b ≡ fit → not b ≡ true → row_kept 1 0 0 0 log i ≡ row_kept_of fit log base i o
  unfolding row_kept_of
  wrong_index_row b e h = rw (← e, not-true b h)

  module _ (f : fit ≡ true) {n p k s : ℕ} {x : List ℕ} (e : row_taken n p k s x ≡ o) where
    pub row_renewed : (k ≡ 0 → ⊥) → (y : List ℕ) → y ≡ if_lent i (index_of_log x base) → row_kept n p k s x y ≡ row_kept_of fit log base i o
    unfolding row_kept_of
    row_renewed z y q = rw (f, ← e, ne_eqb k 0 z, q)

    pub row-left : k ≡ 0 → row_kept n p k s x i ≡ row_kept_of fit log base i o
    unfolding row_kept_of
    row-left z = rw (f, ← e, z)
