-- The register after records that are replayed one after another.
-- Assumes nothing.
use Rattle.std.specs.Prelude.{ℕ, List, [], ◌∷◌}
use Rattle.model.specs.Record.{Rec}
use Rattle.model.specs.Replay.{Tree, Verdict, fits, aside, judge, step}
use Rattle.tree_amend.specs.Registers.{effect_on, aside_on}

unfoldable pub verdict_on : Verdict → Rec → Tree → List ℕ → List ℕ
verdict_on fits r t l = effect_on r t l
verdict_on (aside n k) r t l = aside_on r t l

-- one record: it acts, or stands aside
unfoldable pub step_on : Rec → Tree → List ℕ → List ℕ
step_on r t l = verdict_on (judge r t) r t l

-- the records of a list, from the tree t and the register l on
unfoldable pub replay_on : Tree → List ℕ → List Rec → List ℕ
replay_on t l [] = l
replay_on t l (r ∷ rs) = replay_on (step t r) (step_on r t l) rs
