-- What making the index of a state is asked, over plain values.
-- Assumes nothing.
use Prim.Native.Nat.{ℕ, ◌≤◌}
use native.Mathlib.Omega.{arith}
use mathlib.Core.Path.{◌≡◌, sym, ap, ◌∙◌}
use mathlib.Core.Bool.{Bool, true}
use mathlib.Core.List.{List}
use lib.Dec.{eqb}
use lib.ListN.{length, take}
use lib.Seq.{take_all}
use borrow.Author.Tests.{eqb-true, ne_eqb}
use Rattle.byte_slice.proofs.Numbers.{and_true}
use Rattle.model.specs.Lengths.{tree_size}
use Rattle.model.specs.Bytes.{word}
use Rattle.model.specs.Log.{vector_on, records_of, sound_log_on}
use Rattle.model.specs.Table.{table_bytes}
use Rattle.base_model.specs.Base.{base_vector, held_on, sound_state, tree_of}
use Rattle.call_model.specs.Outcome.{Outcome, outcome, refusal}
use Rattle.base_laws.proofs.Folds.{state_log}
use Rattle.base_head.specs.Head.{BaseHead, headed, head_of}
use Rattle.state_tree.specs.Small.{Small}
use Rattle.call_guard.specs.Opened.{opened, open_of}
use Rattle.call_guard.proofs.Opening.{open_lent, call_refused, call_passes}
use Rattle.index_model.specs.Index.{index_size, index_places}
use Rattle.index_model.specs.Kept.{index_of_log, index_lent, indexed_of, indexed_work, table_if, both_fit}
use Rattle.index_laws.specs.Copied.{index_from}
use Rattle.index_state.proofs.States.{table_few, index_made}
use Rattle.keep_lent.proofs.Lent.{both_lent}

-- ---- an index laid

module _ (log base held : List ℕ) (long : length base ≡ 43032) (sound : sound_state log base ≡ true) (e : held ≡ held_on log base) (small : Small held) where
  pub table_within_lem : (b : List ℕ) → b ≡ table_bytes (tree_of log base) → word b 0 ≤ index_places
  table_within_lem b q = rw q (table_few log base long sound (λ u h. rw e at (small.at u h)))

  pub index_laid : (b x : List ℕ) → b ≡ table_bytes (tree_of log base) → x ≡ index_from b (word b 0) → x ≡ index_of_log log base
  index_laid b x q p = p ∙ rw q (index_made log base long sound (λ u h. rw e at (small.at u h)))

-- ---- a state that is known to be sound

module _ (base : List ℕ) {m k j : ℕ} {v : List ℕ} (e : headed m v k j ≡ head_of base) where
  folded_is : v ≡ base_vector base
  unfolding head_of
  folded_is = ap (λ (x : BaseHead). x.folded) e

  module _ (log : List ℕ) where
    pub head_log : sound_state log base ≡ true → sound_log_on v log ≡ true
    head_log s = rw folded_is (state_log log base s)

    pub head_held : (h : List ℕ) (n : ℕ) → n ≡ length (records_of log) → h ≡ vector_on v (take n (records_of log)) → h ≡ held_on log base
    head_held h n q p = p ∙ rw (folded_is, take_all n (records_of log) (omega arith))

-- ---- the memory to work in

pub work_laid : (log base i work : List ℕ) {y : List ℕ} → both_fit i work ≡ true → (length i ≡ 0 → ⊥) → y ≡ table_bytes (tree_of log base) → y ≡ table_if (index_lent i work) log base work
work_laid log base i work f h e = rw (both_lent i work f h) e

pub work_kept : (log base i work : List ℕ) → length i ≡ 0 → work ≡ table_if (index_lent i work) log base work
work_kept log base i work h = rw h

-- ---- the call

module _ (log base i work : List ℕ) {lent : Bool} (l : lent ≡ index_lent i work) {n m k j used : ℕ} {v held : List ℕ} (e : opened n (headed m v k j) held used ≡ open_of 0 log base lent true) where
  refused_is : (n ≡ 0 → ⊥) → refusal n log i ≡ indexed_of log base i work
  unfolding indexed_of
  refused_is z = rw (← l) (call_refused 0 log base i lent e (outcome 0 0 log (index_of_log log base) 0) z)

  pub not_indexed : (n ≡ 0 → ⊥) → outcome n 0 log i 0 ≡ indexed_of log base i work
  not_indexed z = refused_is z

  pub work_left_lem : (n ≡ 0 → ⊥) → work ≡ indexed_work log base i work
  unfolding indexed_work
  work_left_lem z =
      let q : (indexed_of log base i work).number ≡ n = ap (λ (o : Outcome). o.number) (sym (refused_is z)) in
      rw (q, ne_eqb n 0 z)

  module _ (z : n ≡ 0) where
    both : index_lent i work ≡ true
    both = sym l ∙ open_lent 0 log base lent true e z

    pub index_there : length i ≡ index_size
    index_there = eqb-true (length i) index_size (and_true (eqb (length i) index_size) (eqb (length work) tree_size) both).0

    pub work_there : length work ≡ tree_size
    work_there = eqb-true (length work) tree_size (and_true (eqb (length i) index_size) (eqb (length work) tree_size) both).1

    passed_is : outcome 0 0 log (index_of_log log base) 0 ≡ indexed_of log base i work
    unfolding indexed_of
    passed_is = rw (← l) (call_passes 0 log base i lent e (outcome 0 0 log (index_of_log log base) 0) z)

    pub indexed : (x : List ℕ) → x ≡ index_of_log log base → outcome 0 0 log x 0 ≡ indexed_of log base i work
    indexed x q = rw q passed_is

    pub work_filled : (y : List ℕ) → y ≡ table_bytes (tree_of log base) → y ≡ indexed_work log base i work
    unfolding indexed_work
    work_filled y q =
        let p : (indexed_of log base i work).number ≡ 0 = ap (λ (o : Outcome). o.number) (sym passed_is) in
        rw p q
