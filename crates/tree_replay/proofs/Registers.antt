-- The register after one record, and after records one after another.
-- Assumes nothing.
use Prim.Native.Nat.{ℕ, ◌+◌, ◌-◌}
use native.Mathlib.Nat.{zero-add}
use mathlib.Core.Path.{◌≡◌, refl}
use mathlib.Core.List.{List, [], ◌∷◌, ◌++◌}
use lib.ListN.{take, drop, length, replicate}
use borrow.Author.Tests.{ne_eqb}
use Rattle.model.specs.Record.{Rec}
use Rattle.model.specs.Log.{records_of}
use Rattle.model.specs.Replay.{Tree, fits, aside, empty_tree, judge, step, replay_from}
use Rattle.tree_table.specs.Rows.{tree_in}
use Rattle.tree_maps.specs.Keys.{register_size}
use Rattle.tree_lookup.specs.Roles.{Works}
use Rattle.tree_lookup.proofs.Working.{works_tree}
use Rattle.tree_judge.specs.Judged.{verdict_of}
use Rattle.tree_amend.specs.Registers.{effect_on, aside_on}
use Rattle.log_check.specs.declared.Layout.{Layout}
use Rattle.log_check.specs.declared.Layout.TheVariants.{Log}
use Rattle.log_check.specs.Places.{offset_of, laid_at}
use Rattle.log_check.specs.InOrder.{listed}
use Rattle.log_check.proofs.Lists.{listed_more}
use Rattle.log_check.proofs.Sound.{listed_records}
use Rattle.tree_replay.specs.Registers.{verdict_on, step_on, replay_on}
use Rattle.tree_replay.proofs.Fitting.{judged_fits}
use Rattle.tree_replay.proofs.Playing.{record_is}
use Rattle.tree_replay.proofs.Sound.{empty_rows}

-- ---- one record

module _ (r : Rec) (t : Tree) (x k : ℕ) (e : verdict_of x k ≡ judge r t) (register l : List ℕ) where
  pub acts_on : x ≡ 0 → l ≡ effect_on r t register → l ≡ step_on r t register
  unfolding step_on verdict_on
  acts_on h w =
      let q : fits ≡ judge r t = judged_fits r t x k e h in
      rw (← q) w

  pub stands_on : (x ≡ 0 → ⊥) → l ≡ aside_on r t register → l ≡ step_on r t register
  unfolding step_on verdict_on verdict_of
  stands_on h w =
      let q : aside x k ≡ judge r t = rw (ne_eqb x 0 h) at e in
      rw (← q) w

-- ---- one record more

on_append : (t : Tree) (l : List ℕ) (rs : List Rec) (r : Rec) → replay_on t l (rs ++ (r ∷ [])) ≡ step_on r (replay_from t rs) (replay_on t l rs)
unfolding replay_on replay_from
on_append t l [] r = refl
on_append t l (x ∷ rs) r = on_append (step t x) (step_on x t l) rs r

pub starts_on : (t : Tree) (l : List ℕ) (at : ℕ → Rec) → l ≡ replay_on t l (listed at 0 0)
unfolding replay_on listed
starts_on t l at = refl

module _ (k : Layout) (bytes b₀ register₀ : List ℕ) (n₀ m₀ : ℕ) (b register : List ℕ) (x y i : ℕ) (w : Works b register x y (replay_from (tree_in b₀ n₀ m₀) (listed (laid_at k bytes) 0 i))) (v : register ≡ replay_on (tree_in b₀ n₀ m₀) register₀ (listed (laid_at k bytes) 0 i)) where
  pub goes_on_lem : (at : ℕ) → at ≡ offset_of k i → (l : List ℕ) → l ≡ step_on (take (at + 80 - at) (drop at bytes)) (tree_in b x y) register
      → l ≡ replay_on (tree_in b₀ n₀ m₀) register₀ (listed (laid_at k bytes) 0 (i + 1))
  goes_on_lem at o l s =
      let rs = listed (laid_at k bytes) 0 i in
      let t = tree_in b₀ n₀ m₀ in
      rw (listed_more (laid_at k bytes) 0 i, zero-add i, on_append t register₀ rs (laid_at k bytes i), ← v)
      (rw (record_is k bytes i at o, works_tree b register x y (replay_from t rs) w) at s)

-- ---- the records of a log

pub log_on : (log : List ℕ) (n : ℕ) → n ≡ length (records_of log) → (table register l : List ℕ) → register ≡ replicate register_size 0
    → l ≡ replay_on (tree_in table 0 0) register (listed (laid_at Log log) 0 n) → l ≡ replay_on empty_tree (replicate register_size 0) (records_of log)
log_on log n c table register l e x = rw (empty_rows table, listed_records log n c, e) at x
