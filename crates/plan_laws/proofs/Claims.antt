-- What holds of every plan: the claims.
-- Assumes nothing.
use Prim.Native.Nat.{ℕ, zero, suc, ◌≤◌, ◌<◌}
use native.Mathlib.Omega.{arith}
use mathlib.Core.Path.{◌≡◌, refl, sym, ap, subst, ◌∙◌}
use mathlib.Core.Logic.{⊎_elim}
use mathlib.Core.Bool.{true, cond, ◌&&◌}
use mathlib.Core.List.{List, [], ◌∷◌, ◌++◌}
use lib.Dec.{eqb}
use lib.ListN.{length, get_or}
use borrow.Author.Tests.{eq-eqb, ne_eqb, eqb-true, eqb-false, lt-ltb, le-ltb}
use Rattle.model.specs.Numbers.{first_of}
use Rattle.model.specs.Vector.{covers, compare_of}
use Rattle.model.specs.Log.{vector_of, records_of}
use Rattle.model.specs.Listing.{refused_line}
use Rattle.base_model.specs.Base.{empty_base, base_vector, held_on, tree_of}
use Rattle.call_model.specs.Outcome.{Outcome}
use Rattle.byte_slice.proofs.Numbers.{eq_or_ne, cond_cases, and_true, true_and}
use Rattle.vector.proofs.Dominance.{covers_antisym}
use Rattle.log_laws.proofs.Members.{All}
use Rattle.log_laws.proofs.Tests.{vector_on-length}
use Rattle.listing_laws.proofs.Lines.{refused_line_length}
use Rattle.machine.specs.Machine.{Call, Bench, bare, done, next, play, held_vector}
use Rattle.machine.proofs.Converge.{held-counts, converge}
use Rattle.machine.proofs.Demand.{play-append}
use Rattle.plan_model.specs.Plan.{event_kind, event_unit, event_other, event_wish, event_done, Round, round, new_round, log_at, with_log, true_vector, act_answer, act_tried, act_done, pass_taken, pass_done, plan_archive, plan_fault, plan_text, round_of, round_text}
use Rattle.plan_units.proofs.Holding.{IsAct, IsPass, event_cases}
use Rattle.plan_units.proofs.Events.{act-done, pass-done, accepted_act}
use Rattle.plan_lines.proofs.Lengths.{round_text_short}
use Rattle.plan_laws.specs.Calls.{plan_events, after_events, act_calls, pass_calls, event_calls, given_after, calls_from, plan_calls, answers_zero}
use Rattle.plan_laws.specs.Claim.{ActClaim, PlanClaim, EveryPlan}
use Rattle.plan_laws.proofs.Steps.{Event, round_events, events_hold_lem}
use Rattle.plan_laws.proofs.Sim.{Sim, sim_bare}
use Rattle.plan_laws.proofs.Acts.{act_sim, act-answers}
use Rattle.plan_laws.proofs.Passes.{pass_sim, hand_zero, take_zero}
use Rattle.plan_laws.proofs.Fed.{fed_as_whole}
use Rattle.plan_laws.proofs.Skipped.{acts_told}

-- ---- an act

first_none : (n : ℕ) → first_of n 0 ≡ n
first_none zero = refl
first_none (suc n) = refl

pub act_claim : (s : Round) (u : ℕ) (w : List ℕ) → ActClaim s u w
unfolding act_done act_answer
act_claim s u w =
    let o : Outcome = act_tried s.logs u w in
    record {
      made = λ e. rw (eq-eqb (act_answer s.made o) 0 e);
      skipped = λ z. rw (ne_eqb (act_answer s.made o) 0 z);
      room = λ h. rw (lt-ltb s.made 512 h) (first_none o.number);
      full = λ h e. rw (e, le-ltb s.made 512 h);
    }

-- ---- one event on the machine

answers-append : (archive : ℕ) (cs ds : List Call) (t : Bench) → answers_zero archive t cs ≡ true → answers_zero archive (play archive t cs) ds ≡ true → answers_zero archive t (cs ++ ds) ≡ true
unfolding answers_zero play
answers-append archive [] ds t h k = k
answers-append archive (c ∷ cs) ds t h k =
    let (a, r) = and_true (eqb (done archive t c).number 0) (answers_zero archive (next archive t c) cs) h in
    true_and (eqb (done archive t c).number 0) (answers_zero archive (next archive t c) (cs ++ ds)) a (answers-append archive cs ds (next archive t c) r k)

-- what a list of calls leads to beside a round
record Leads (archive : ℕ) (t : Bench) (cs : List Call) (s : Round) (n : ℕ) : Type 0 where
  sim : Sim archive s n (play archive t cs)
  answers : answers_zero archive t cs ≡ true

-- an act that is skipped changes no log
skips : (archive : ℕ) (s : Round) (n : ℕ) (t : Bench) → Sim archive s n t → Sim archive (round s.logs s.made (suc s.skipped)) n t
skips archive s n t sim =
    record {
      units = sim.units;
      inv = sim.inv;
      logs = sim.logs;
      bases = sim.bases;
      folded = sim.folded;
      given = sim.given;
      once = sim.once;
      made = sim.made;
      few = sim.few;
      own = sim.own;
      mine = sim.mine;
    }

act_leads : (archive : ℕ) (s : Round) (n : ℕ) (t : Bench) (u : ℕ) (w : List ℕ) → Sim archive s n t → u < 8
    → Leads archive t (act_calls s u w) (act_done s u (act_tried s.logs u w)) n
unfolding act_calls act_done play answers_zero
act_leads archive s n t u w sim h =
    let o : Outcome = act_tried s.logs u w in
    ⊎_elim
    (λ (e : act_answer s.made o ≡ 0).
    let (a, b) = accepted_act s.made o e in
    rw (eq-eqb (act_answer s.made o) 0 e)
    (record {
      sim = act_sim archive s n t sim u w h a b;
      answers = true_and _ true (eq-eqb _ 0 (act-answers archive s n t sim u w h a b)) refl;
    }))
    (λ (z : act_answer s.made o ≡ 0 → ⊥). rw (ne_eqb (act_answer s.made o) 0 z) (record { sim = skips archive s n t sim; answers = refl }))
    (eq_or_ne (act_answer s.made o) 0)

pass_leads : (archive : ℕ) (s : Round) (n : ℕ) (t : Bench) (a b : ℕ) → Sim archive s n t → a < 8 → b < 8
    → Leads archive t (pass_calls s n a b) (pass_done s b (pass_taken archive s.logs a b)) (suc n)
unfolding pass_calls pass_done play answers_zero
pass_leads archive s n t a b sim ha hb =
    record {
      sim = pass_sim archive s n t sim a b ha hb;
      answers = true_and _ _ (eq-eqb _ 0 (hand_zero archive s n t sim a b ha hb)) (true_and _ true (eq-eqb _ 0 (take_zero archive s n t sim a b ha hb)) refl);
    }

event_leads : (archive : ℕ) (s : Round) (n : ℕ) (t : Bench) (e : List ℕ) → Sim archive s n t → Event e
    → Leads archive t (event_calls s n e) (event_done archive s e) (given_after n e)
unfolding event_calls event_done given_after event_kind event_unit event_other
event_leads archive s n t e sim h =
    ⊎_elim
    (λ (p : IsAct e). rw (eq-eqb (get_or e 0 0) 1 p.kind) (act_leads archive s n t (get_or e 1 0) (event_wish e) sim p.unit))
    (λ (p : IsPass e). rw (ne_eqb (get_or e 0 0) 1 p.kind) (pass_leads archive s n t (get_or e 1 0) (get_or e 2 0) sim p.unit p.other))
    (event_cases e h)

-- ---- event after event

record Ends (archive : ℕ) (t : Bench) (cs : List Call) (s : Round) : Type 0 where
  count : ℕ
  leads : Leads archive t cs s count

events_lead : (archive : ℕ) (l : List (List ℕ)) (s : Round) (n : ℕ) (t : Bench) → Sim archive s n t → All Event l
    → Ends archive t (calls_from archive s n l) (after_events archive s l)
unfolding calls_from after_events play answers_zero
events_lead archive [] s n t sim h = record { count = n; leads = record { sim = sim; answers = refl } }
events_lead archive (e ∷ l) s n t sim (h, hs) =
    let cs : List Call = event_calls s n e in
    let ds : List Call = calls_from archive (event_done archive s e) (given_after n e) l in
    let a = event_leads archive s n t e sim h in
    let b = events_lead archive l (event_done archive s e) (given_after n e) (play archive t cs) a.sim hs in
    record {
      count = b.count;
      leads =
          record {
            sim = subst (Sim archive (after_events archive (event_done archive s e) l) b.count) (sym (play-append archive cs ds t)) b.leads.sim;
            answers = answers-append archive cs ds t a.answers b.leads.answers;
          };
    }

plan_leads : (f : List ℕ) → (plan_fault f).number ≡ 0 → Ends (plan_archive f) bare (plan_calls f) (round_of f)
unfolding plan_calls
plan_leads f h =
    subst (Ends (plan_archive f) bare (plan_calls f)) (sym (round_events f))
    (events_lead (plan_archive f) (plan_events f) new_round 0 bare (sim_bare (plan_archive f)) (events_hold_lem f h))

-- ---- an accepted plan

-- an answer 0 means the same counts
same_counts : (v w : List ℕ) → length v ≡ 8 → length w ≡ 8 → compare_of v w ≡ 0 → v ≡ w
unfolding compare_of
same_counts v w n m e =
    ⊎_elim
    (λ c. ⊎_elim
    (λ d. covers_antisym v w n m c.0 d.0)
    (λ d. absurd (let z : ◌≡◌ {A = ℕ} 1 0 = sym d.1 ∙ (sym c.1 ∙ e) in omega arith))
    (cond_cases (covers w v) 0 1))
    (λ c. ⊎_elim
    (λ d. absurd (let z : ◌≡◌ {A = ℕ} 2 0 = sym d.1 ∙ (sym c.1 ∙ e) in omega arith))
    (λ d. absurd (let z : ◌≡◌ {A = ℕ} 3 0 = sym d.1 ∙ (sym c.1 ∙ e) in omega arith))
    (cond_cases (covers w v) 2 3))
    (cond_cases (covers v w) (cond (covers w v) 0 1) (cond (covers w v) 2 3))

module _ (archive : ℕ) (s : Round) (n : ℕ) (t : Bench) (sim : Sim archive s n t) where
  vector_is : (u : ℕ) → u < 8 → true_vector s.logs u ≡ held_vector t u
  unfolding true_vector
  vector_is u h =
      let e : held_on (log_at s.logs u) empty_base ≡ held_on (t.logs u) (t.bases u) = rw (sim.logs u h, sim.bases u) in
      e ∙ held-counts archive t sim.inv u

  same_log : (u v : ℕ) → u < 8 → v < 8 → compare_of (true_vector s.logs u) (true_vector s.logs v) ≡ 0 → log_at s.logs u ≡ log_at s.logs v
  unfolding true_vector
  same_log u v hu hv e =
      let k : true_vector s.logs u ≡ true_vector s.logs v = same_counts (true_vector s.logs u) (true_vector s.logs v) (vector_on-length _ (records_of (log_at s.logs u))) (vector_on-length _ (records_of (log_at s.logs v))) e in
      let c = converge archive t sim.inv sim.once u v in
      let b = c.bytes (sym (vector_is u hu) ∙ k ∙ vector_is v hv) (ap base_vector (sim.bases u ∙ sym (sim.bases v))) in
      sym (sim.logs u hu) ∙ b ∙ sim.logs v hv

pub plan_claim : (f : List ℕ) → (plan_fault f).number ≡ 0 → PlanClaim f
plan_claim f h =
    let ends = plan_leads f h in
    let sim = ends.leads.sim in
    let same = same_log (plan_archive f) (round_of f) ends.count (play (plan_archive f) bare (plan_calls f)) sim in
    record {
      logs = λ u k. sym (sim.logs u k);
      bases = sim.bases;
      answers = ends.leads.answers;
      once = sim.once;
      counted = sim.made;
      few = sim.few;
      others = acts_told f;
      same = λ u v hu hv e. (same u v hu hv e, ap (λ (x : List ℕ). tree_of x empty_base) (same u v hu hv e));
    }

-- ---- what is printed

pub text_fits : (f : List ℕ) → length (plan_text f) ≤ 1024
unfolding plan_text
text_fits f =
    ⊎_elim
    (λ c. rw c.1 (omega (arith, round_text_short (round_of f))))
    (λ c. rw c.1 (omega (arith, refused_line_length (plan_fault f).number (plan_fault f).place)))
    (cond_cases (eqb (plan_fault f).number 0) (round_text (round_of f)) (refused_line (plan_fault f).number (plan_fault f).place))

pub every_plan : EveryPlan
every_plan = record { acts = act_claim; accepted = plan_claim; fed = fed_as_whole; fits = text_fits }
