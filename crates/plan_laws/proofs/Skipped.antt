-- Each act of a plan either makes a record or is skipped, and a pass is neither.
-- Assumes nothing.
use Prim.Native.Nat.{ℕ, suc, ◌+◌}
use native.Mathlib.Omega.{arith}
use mathlib.Core.Path.{◌≡◌, refl, ap}
use mathlib.Core.Logic.{⊎_elim}
use mathlib.Core.Bool.{true, false, cond}
use mathlib.Core.List.{List, [], ◌∷◌}
use lib.Dec.{eqb}
use Rattle.call_model.specs.Outcome.{Outcome}
use Rattle.byte_slice.proofs.Numbers.{bool_cases, cond_cases}
use Rattle.plan_model.specs.Plan.{event_kind, event_unit, event_other, event_wish, event_done, Round, round, with_log, act_answer, act_tried, act_done, pass_taken, pass_done, new_round, plan_archive, round_of}
use Rattle.plan_laws.specs.Calls.{plan_events, after_events, acts_in}
use Rattle.plan_laws.proofs.Steps.{round_events}

-- records made and acts skipped
unfoldable pub told : Round → ℕ
told s = s.made + s.skipped

act-told : (s : Round) (u : ℕ) (o : Outcome) → told (act_done s u o) ≡ suc (told s)
unfolding told act_done
act-told s u o =
    ⊎_elim
    (λ c. rw c.1 (omega arith))
    (λ c. rw c.1 (omega arith))
    (cond_cases (eqb (act_answer s.made o) 0) (round (with_log s.logs u o.log) (suc s.made) s.skipped) (round s.logs s.made (suc s.skipped)))

pass-told : (s : Round) (b : ℕ) (o : Outcome) → told (pass_done s b o) ≡ told s
unfolding told pass_done
pass-told s b o = refl

act_event : (archive : ℕ) (s : Round) (e : List ℕ) → eqb (event_kind e) 1 ≡ true → told (event_done archive s e) ≡ suc (told s)
unfolding event_done
act_event archive s e h = rw h (act-told s (event_unit e) (act_tried s.logs (event_unit e) (event_wish e)))

pass_event : (archive : ℕ) (s : Round) (e : List ℕ) → eqb (event_kind e) 1 ≡ false → told (event_done archive s e) ≡ told s
unfolding event_done
pass_event archive s e h = rw h (pass-told s (event_other e) (pass_taken archive s.logs (event_unit e) (event_other e)))

events_told : (archive : ℕ) (l : List (List ℕ)) (s : Round) → told (after_events archive s l) ≡ told s + acts_in l
unfolding after_events acts_in
events_told archive [] s = omega arith
events_told archive (e ∷ l) s =
    let rest = events_told archive l (event_done archive s e) in
    ⊎_elim
    (λ (h : eqb (event_kind e) 1 ≡ true). let a = act_event archive s e h in rw h (omega (arith, rest, a)))
    (λ (h : eqb (event_kind e) 1 ≡ false). let p = pass_event archive s e h in rw h (omega (arith, rest, p)))
    (bool_cases (eqb (event_kind e) 1))

pub acts_told : (f : List ℕ) → (round_of f).made + (round_of f).skipped ≡ acts_in (plan_events f)
unfolding told
acts_told f =
    let e = ap told (round_events f) in
    let r = events_told (plan_archive f) (plan_events f) new_round in
    omega (arith, e, r)
