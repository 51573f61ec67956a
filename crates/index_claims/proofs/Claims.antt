-- Claims I1 to I4: looking up and listing in the index of a sound state, and the index kept from record to record.
-- Assumes nothing.
use Prim.Native.Nat.{ℕ, ◌+◌, ◌≤◌, ◌<◌}
use native.Mathlib.Omega.{arith}
use mathlib.Core.Path.{◌≡◌, refl, ap, ◌∙◌}
use mathlib.Core.Logic.{inl, inr}
use mathlib.Core.List.{List, [], ◌∷◌, ◌++◌}
use lib.ListN.{get_or, replicate, replicate-append-replicate}
use Rattle.byte_slice.proofs.PutAt.{padded-nil}
use Rattle.model.specs.Record.{Rec, root, op}
use Rattle.model.specs.Log.{count, records_of}
use Rattle.model.specs.Replay.{Entry, Tree, Verdict, fits, aside, empty_tree, holder_of, present_ones, judge, apply, step, replay_from}
use Rattle.base_model.specs.Base.{base_vector, base_tree, held_on, tree_of}
use Rattle.log_laws.specs.Members.{Has as Member}
use Rattle.log_laws.proofs.Formed.{well_ops}
use Rattle.log_laws.proofs.Counts.{count-append, formed_on}
use Rattle.log_laws.proofs.Tests.{vector_on_get_d}
use Rattle.tree_laws.proofs.Settling.{replay-append}
use Rattle.call_laws.specs.Keeps.{Good}
use Rattle.call_laws.proofs.States.{good_records}
use Rattle.index_model.specs.Index.{index_size, ordered, index_rows, index_bytes, index_of, find_in, list_in, made_of}
use Rattle.index_model.specs.Acting.{step_in}
use Rattle.index_model.specs.Kept.{index_of_log}
use Rattle.index_laws.specs.Listed.{Listed}
use Rattle.index_laws.proofs.Exact.{find_right, list_right}
use Rattle.index_laws.proofs.Acting.{Fit, effect-right}
use Rattle.index_state.proofs.States.{state_fit}
use Rattle.index_claims.specs.Lists.{SmallOn}

nobody : Entry
nobody = record { made = 0; kind = 0; inside = 0; label = []; contents = 0; date = []; mark = []; placing = 0 }

fit_of : (log base : List ℕ) → Good log base → SmallOn log base → Fit (tree_of log base).entries
fit_of log base g small = state_fit log base g.long.1 g.sound small

module _ (log base : List ℕ) (good : Good log base) (small : SmallOn log base) (f : ℕ) (within : f < 4294967296) where
  -- I1: looking up a folder and a label, in capitals or small letters, gives the identity of the one entry that has them, or 0 where the tree has none
  pub find_exact : (t : List ℕ) → find_in (index_of_log log base) f t ≡ made_of (holder_of root f t (tree_of log base).entries)
  unfolding index_of
  find_exact t =
      let w = fit_of log base good small in
      find_right (tree_of log base).entries w.few w.rowed f within nobody t w.apart w.named

  -- I2: listing a folder gives its entries and no other, each once, in label order
  pub list_exact : Listed f (tree_of log base).entries (list_in (index_of_log log base) f)
  unfolding index_of
  list_exact =
      let w = fit_of log base good small in
      list_right (tree_of log base).entries w.few w.rowed f within nobody w.apart w.named

-- ---- the index kept

-- I3: the index of the root alone, and so of an accepted start, is all zeros
pub start_index : index_of empty_tree ≡ replicate index_size 0
unfolding index_of empty_tree present_ones ordered index_bytes index_rows
start_index = rw (padded-nil 40960) (replicate-append-replicate {A = ℕ} 4 40960 0)

last_of : (l : List Rec) (r : Rec) → Member r (l ++ (r ∷ []))
last_of [] r = inl refl
last_of (x ∷ l) r = inr (last_of l r)

one_more : (t : Tree) (l : List Rec) (r : Rec) → replay_from t (l ++ (r ∷ [])) ≡ step (replay_from t l) r
unfolding replay_from
one_more t l r = replay-append t l (r ∷ [])

step_right : (t : Tree) (r : Rec) → 1 ≤ op r → Fit t.entries → Fit (step t r).entries → step_in (judge r t) r t (index_of t) ≡ index_of (step t r)
unfolding step apply step_in index_of
step_right t r one f g = go (judge r t) g
  where
    go : (v : Verdict) → Fit (apply v r t).entries → step_in v r t (index_of t) ≡ index_of (apply v r t)
    go fits h = effect-right nobody r t one f h
    go (aside n k) h = refl

-- I4: one record more behind a log: what the record does to an index that is right leaves it right
module _ (log next base : List ℕ) (r : Rec) (more : records_of next ≡ records_of log ++ (r ∷ [])) where
  tree-next : tree_of next base ≡ step (tree_of log base) r
  unfolding tree_of
  tree-next = ap (replay_from (base_tree base)) more ∙ one_more (base_tree base) (records_of log) r

  small_before : SmallOn next base → SmallOn log base
  small_before small u h =
      let v : List ℕ = base_vector base in
      let q : get_or (held_on next base) u 0 ≡ get_or v u 0 + (count u (records_of log ++ (r ∷ []))) = vector_on_get_d v (records_of next) u h ∙ rw more in
      omega (arith, small u h, vector_on_get_d v (records_of log) u h, count-append u (records_of log) (r ∷ []))

  pub index_kept : Good log base → Good next base → SmallOn next base
      → step_in (judge r (tree_of log base)) r (tree_of log base) (index_of_log log base) ≡ index_of_log next base
  index_kept g h small =
      let a : Fit (tree_of log base).entries = fit_of log base g (small_before small) in
      let b : Fit (step (tree_of log base) r).entries = rw tree-next at (fit_of next base h small) in
      let i : Member r (records_of next) = rw more (last_of (records_of log) r) in
      let one : 1 ≤ op r = omega (arith, (well_ops r (formed_on (base_vector base) [] (records_of next) r (good_records next base h) i)).0) in
      rw tree-next (step_right (tree_of log base) r one a b)
