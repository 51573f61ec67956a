-- A make that is judged by its own rule: what `make_at` is asked, over plain values.
-- Assumes nothing.
use Prim.Native.Nat.{ℕ, ◌≤◌}
use mathlib.Core.Path.{◌≡◌, sym, ◌∙◌}
use mathlib.Core.Logic.{◌⊎◌}
use mathlib.Core.List.{List, [], ◌∷◌, ◌++◌}
use Rattle.model.specs.Record.{Rec, op, self_of, folder_of}
use Rattle.model.specs.Replay.{new_entry, judge, judge_make, step}
use Rattle.tree_laws.proofs.Verdicts.{judge_make_lem}
use Rattle.tree_table.specs.Rows.{tree_in, entries_from, asides_from, new_aside, InRange}
use Rattle.tree_lookup.specs.Roles.{Works, Holds, Home}
use Rattle.tree_judge.specs.Judged.{verdict_of}
use Rattle.tree_amend.specs.Effects.{with_entries, with_asides}
use Rattle.tree_amend.specs.Registers.{made_on, aside_on}
use Rattle.tree_effect.proofs.Effects.{make_home, effect_make}
use Rattle.tree_effect.proofs.Registers.{make_turns}
use Rattle.tree_replay.specs.Registers.{step_on}
use Rattle.tree_replay.proofs.Stepping.{mark_fits_lem, step-placed, step_acts, step_stands}
use Rattle.tree_replay.proofs.Registers.{acts_on, stands_on}

module _ (b register : List ℕ) (n m : ℕ) (r : Rec) (x k : ℕ) (e : verdict_of x k ≡ judge_make r (entries_from b 0 n)) (o : op r ≤ 2) where
  judged : verdict_of x k ≡ judge r (tree_in b n m)
  unfolding tree_in
  judged = e ∙ sym (judge_make_lem r (tree_in b n m) o)

  pub make_placed : x ≡ 0 → Home (folder_of r) (entries_from b 0 n)
  make_placed h = make_home r (entries_from b 0 n) (step-placed b register n m r x k judged h) o

  pub make_mark : Holds b register n m → (x ≡ 0 → ⊥) → (k ≡ 0) ⊎ InRange k
  make_mark w h = mark_fits_lem b register n m r x k judged w h

  module _ (b' register' : List ℕ) (n' m' : ℕ) where
    pub make_acts : x ≡ 0 → Works b' register' n' m' (with_entries (tree_in b n m) (entries_from b 0 n ++ (new_entry r ∷ [])))
        → Works b' register' n' m' (step (tree_in b n m) r)
    make_acts h w = step_acts b register n m r x k judged b' register' n' m' h (effect_make b b' register register' n m n' m' r o w)

    pub make_stands : (x ≡ 0 → ⊥) → Works b' register' n' m' (with_asides (tree_in b n m) (asides_from b 0 m ++ (new_aside (self_of r) x k ∷ [])))
        → Works b' register' n' m' (step (tree_in b n m) r)
    make_stands h w = step_stands b register n m r x k judged b' register' n' m' h w

  module _ (l : List ℕ) where
    pub make_acts_on : x ≡ 0 → l ≡ made_on r (tree_in b n m) register → l ≡ step_on r (tree_in b n m) register
    make_acts_on h q = acts_on r (tree_in b n m) x k judged register l h (make_turns r (tree_in b n m) register l o q)

    pub make_stands_on : (x ≡ 0 → ⊥) → l ≡ aside_on r (tree_in b n m) register → l ≡ step_on r (tree_in b n m) register
    make_stands_on h q = stands_on r (tree_in b n m) x k judged register l h q
