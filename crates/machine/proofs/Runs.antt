-- Runs whose outcomes are those of document 01 are the machine's, and the machine's are runs.
-- Assumes nothing.
use Prim.Native.Nat.{ℕ}
use mathlib.Core.Path.{◌≡◌, refl, subst}
use mathlib.Core.List.{List, [], ◌∷◌}
use Rattle.call_model.specs.Outcome.{Outcome}
use Rattle.machine.specs.Machine.{Call, Bench, done, after, next, play, outcomes}
use Rattle.machine.specs.Runs.{Runs}

pub runs_are : (archive : ℕ) (R : Bench → Call → Outcome → Type 0) → ((s : Bench) (c : Call) (o : Outcome) → R s c o → o ≡ done archive s c)
    → (cs : List Call) (s : Bench) (os : List Outcome) (t : Bench) → Runs R s cs os t → (os ≡ outcomes archive s cs) × (t ≡ play archive s cs)
unfolding outcomes play next
runs_are archive R h [] s os t r = r
runs_are archive R h (c ∷ cs) s [] t r = absurd r
runs_are archive R h (c ∷ cs) s (o ∷ os) t (r, rest) =
    let e = h s c o r in
    let (p, q) = runs_are archive R h cs (next archive s c) os t (subst (λ (x : Outcome). Runs R (after s c x) cs os t) e rest) in
    (λ i. e i ∷ p i, q)

pub runs_of : (archive : ℕ) (R : Bench → Call → Outcome → Type 0) → ((s : Bench) (c : Call) → R s c (done archive s c))
    → (cs : List Call) (s : Bench) → Runs R s cs (outcomes archive s cs) (play archive s cs)
unfolding outcomes play next
runs_of archive R h [] s = (refl, refl)
runs_of archive R h (c ∷ cs) s = (h s c, runs_of archive R h cs (next archive s c))
