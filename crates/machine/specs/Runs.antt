-- A list of runs: each call gets its unit's log exactly as the last call there left it, and takes get the blocks given.
-- Assumes nothing.
use Rattle.std.specs.Prelude.{◌≡◌, List, [], ◌∷◌}
use Rattle.call_model.specs.Outcome.{Outcome}
use Rattle.machine.specs.Machine.{Call, Bench, after}

-- R says what outcome a run of a call may have on a bench; os are the outcomes of the calls, and t is the bench at the end
abbrev pub Runs : (Bench → Call → Outcome → Type 0) → Bench → List Call → List Outcome → Bench → Type 0
Runs R s [] os t = (os ≡ []) × (t ≡ s)
Runs R s (c ∷ cs) [] t = ⊥
Runs R s (c ∷ cs) (o ∷ os) t = R s c o × Runs R (after s c o) cs os t
