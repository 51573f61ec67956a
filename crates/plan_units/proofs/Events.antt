-- What an event leaves: every unit is good, and at most one act more is skipped.
-- Assumes nothing.
use Prim.Native.Nat.{ℕ, suc, ◌≤◌, ◌<◌}
use native.Mathlib.Omega.{arith}
use mathlib.Core.Path.{◌≡◌, refl, sym, ap, subst, ◌∙◌}
use mathlib.Core.Logic.{⊎_elim}
use mathlib.Core.Bool.{true, false}
use mathlib.Core.List.{List, []}
use lib.Dec.{ltb, eqb}
use lib.ListN.{get_or, replicate}
use borrow.Author.Tests.{eq-eqb, ne_eqb, eqb-true, ltb-true}
use Rattle.base_model.specs.Base.{empty_base}
use Rattle.call_model.specs.Outcome.{Outcome, act_of, take_of}
use Rattle.byte_slice.proofs.Numbers.{eq_or_ne, cond_cases, first_zero}
use Rattle.call_laws.specs.Keeps.{Good, Keeps}
use Rattle.call_laws.proofs.Calls.{act-keeps, take-keeps}
use Rattle.plan_model.specs.Plan.{Round, round, log_at, with_log, act_answer, act_done, act_tried, pass_handed, pass_taken, pass_done, event_kind, event_unit, event_other, event_wish, event_holds, event_done}
use Rattle.plan_units.specs.Units.{Units}
use Rattle.plan_units.proofs.Logs.{units_put}
use Rattle.plan_units.proofs.Holding.{IsAct, IsPass, event_cases}

-- what comes of a round by one event
pub record Goes (s t : Round) : Type 0 where
  pub units : Units t.logs
  pub made : s.made ≤ 512 → t.made ≤ 512
  pub skipped : t.skipped ≤ suc s.skipped

-- ---- the log that a call leaves is good

kept : (log lent : List ℕ) (o : Outcome) → Good log empty_base → Keeps log empty_base lent o → Good o.log empty_base
kept log lent o g k =
    ⊎_elim
    (λ e. k.accepted e)
    (λ e. subst (λ (x : List ℕ). Good x empty_base) (sym (k.refused e).0) g)
    (eq_or_ne o.number 0)

module _ (s : List ℕ) (u : ℕ) (w : Units s) (h : u < 8) where
  pub act_good : (wish : List ℕ) → Good (act_tried s u wish).log empty_base
  unfolding act_tried
  act_good wish = kept (log_at s u) [] (act_of u (log_at s u) empty_base wish (replicate 86020 0)) (w.good u h) (act-keeps u (log_at s u) empty_base wish (replicate 86020 0))

  pub pass_good : (archive a : ℕ) → Good (pass_taken archive s a u).log empty_base
  unfolding pass_taken
  pass_good archive a =
      let b : List ℕ = (pass_handed archive s a u).lent in
      kept (log_at s u) [] (take_of archive u (log_at s u) empty_base b) (w.good u h) (take-keeps archive u (log_at s u) empty_base b)

-- ---- an act

-- an accepted act is accepted by itself, and there is room among all units
pub accepted_act : (m : ℕ) (o : Outcome) → act_answer m o ≡ 0 → (o.number ≡ 0) × (m < 512)
unfolding act_answer
accepted_act m o e =
    let (a, b) = first_zero o.number _ e in
    (a, ⊎_elim (λ c. ltb-true m 512 c.0) (λ c. absurd (let z : ◌≡◌ {A = ℕ} 11 0 = sym c.1 ∙ b in omega arith)) (cond_cases (ltb m 512) 0 11))

pub act_goes : (s : Round) (u : ℕ) (o : Outcome) → Units s.logs → u < 8 → Good o.log empty_base → Goes s (act_done s u o)
unfolding act_done
act_goes s u o w h g =
    ⊎_elim
    (λ c.
    subst (Goes s) (sym c.1)
    (record {
      units = units_put s.logs u o.log w h g;
      made = λ _. let k = (accepted_act s.made o (eqb-true (act_answer s.made o) 0 c.0)).1 in omega arith;
      skipped = omega arith;
    }))
    (λ c. subst (Goes s) (sym c.1) (record { units = w; made = λ k. k; skipped = omega arith }))
    (cond_cases (eqb (act_answer s.made o) 0) (round (with_log s.logs u o.log) (suc s.made) s.skipped) (round s.logs s.made (suc s.skipped)))

-- ---- an event

-- an event is an act or a pass
module _ (archive : ℕ) (s : Round) (e : List ℕ) where
  pub act-done : get_or e 0 0 ≡ 1 → event_done archive s e ≡ act_done s (get_or e 1 0) (act_tried s.logs (get_or e 1 0) (event_wish e))
  unfolding event_done event_kind event_unit
  act-done h = rw (eq-eqb (get_or e 0 0) 1 h)

  pub pass-done : (get_or e 0 0 ≡ 1 → ⊥) → event_done archive s e ≡ pass_done s (get_or e 2 0) (pass_taken archive s.logs (get_or e 1 0) (get_or e 2 0))
  unfolding event_done event_kind event_unit event_other
  pass-done h = rw (ne_eqb (get_or e 0 0) 1 h)

  pub event_goes : Units s.logs → event_holds e ≡ true → Goes s (event_done archive s e)
  unfolding pass_done
  event_goes w h =
      ⊎_elim
      (λ (a : IsAct e).
      subst (Goes s) (sym (act-done a.kind))
      (act_goes s (get_or e 1 0) (act_tried s.logs (get_or e 1 0) (event_wish e)) w a.unit (act_good s.logs (get_or e 1 0) w a.unit (event_wish e))))
      (λ (p : IsPass e).
      subst (Goes s) (sym (pass-done p.kind))
      (record {
        units = units_put s.logs (get_or e 2 0) (pass_taken archive s.logs (get_or e 1 0) (get_or e 2 0)).log w p.other (pass_good s.logs (get_or e 2 0) w p.other archive (get_or e 1 0));
        made = λ k. k;
        skipped = omega arith;
      }))
      (event_cases e h)
