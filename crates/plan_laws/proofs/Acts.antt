-- An act on the plain machine beside the same act of a round.
-- Assumes nothing.
use Prim.Native.Nat.{ℕ, suc, ◌+◌, ◌≤◌, ◌<◌}
use native.Mathlib.Omega.{arith}
use mathlib.Core.Path.{◌≡◌, refl, sym, ap, subst, ◌∙◌}
use mathlib.Core.Logic.{◌⊎◌, inl, inr, ⊎_elim}
use mathlib.Core.Bool.{true, false, not, ◌&&◌}
use mathlib.Core.List.{List, [], ◌∷◌, ◌++◌, append-nil}
use lib.ListN.{length, replicate, get_or}
use Rattle.model.specs.Record.{Rec, unit, num}
use Rattle.model.specs.Log.{count, count_on, records_of}
use Rattle.base_model.specs.Base.{empty_base, base_vector, base_in}
use Rattle.call_model.specs.Outcome.{Outcome, refusal, stamped, act_of}
use Rattle.byte_slice.proofs.Numbers.{eq_or_ne}
use Rattle.log_laws.specs.Members.{Has}
use Rattle.log_laws.proofs.Counts.{count-cons, count-nil, count_own, count_other, count-append, no_counts_lem}
use Rattle.act_laws.proofs.Act.{stamped-unit, stamped-num, wish_fits_lem, act_zero}
use Rattle.call_laws.specs.Keeps.{Good}
use Rattle.call_laws.proofs.States.{empty_vector}
use Rattle.call_laws.proofs.Calls.{withAct, wishAnswer, act_cases}
use Rattle.machine.specs.Machine.{Call, acts, unit_of, Block, Bench, done, if_accepted, gives, uses, base_left, folded_left, put, after, next}
use Rattle.machine.specs.Claim.{holds, distinct}
use Rattle.machine.proofs.Tests.{Held, holds_cases}
use Rattle.machine.proofs.Stores.{accepted_is}
use Rattle.machine.proofs.Reach.{Inv, inv_next, put_cases}
use Rattle.plan_model.specs.Plan.{Round, round, log_at, with_log, act_tried}
use Rattle.plan_units.specs.Units.{Units}
use Rattle.plan_units.proofs.Logs.{units_put, log_put, log_other}
use Rattle.plan_units.proofs.Events.{act_good}
use Rattle.plan_laws.proofs.Sim.{Sim, most}

-- ---- the record of an act

-- an accepted act adds a record of its unit, numbered behind those held
pub record Adds (u : ℕ) (log w : List ℕ) (o : Outcome) : Type 0 where
  pub made : Rec
  pub stamp : made ≡ stamped u (base_vector empty_base) (records_of log) w
  pub records : records_of o.log ≡ records_of log ++ (made ∷ [])
  pub unit_is : unit made ≡ u
  pub number : num made ≡ suc (count u (records_of log))

pub adds : (u : ℕ) (log w work : List ℕ) → (act_of u log empty_base w work).number ≡ 0 → Adds u log w (act_of u log empty_base w work)
adds u log w work e =
    ⊎_elim
    (λ c. absurd (let z : suc c.0 ≡ 0 = sym (ap (λ (o : Outcome). o.number) c.1) ∙ e in omega arith))
    (λ c.
    let v : List ℕ = base_vector empty_base in
    let l : List Rec = records_of log in
    let (_, k, z, n, _) = c in
    let f = act_zero (base_in empty_base).list u v (base_in empty_base).tree l w z in
    let zero-before : get_or v u 0 ≡ 0 = rw empty_vector (no_counts_lem u) in
    record {
      made = stamped u v l w;
      stamp = refl;
      records = k;
      unit_is = stamped-unit u v l w n ∙ (wish_fits_lem u v l w f.well).0;
      number = let q = stamped-num u v l w n in omega arith;
    })
    (act_cases u log empty_base w work)

-- ---- the bench then

module _ (archive : ℕ) (s : Round) (n : ℕ) (t : Bench) (sim : Sim archive s n t) (u : ℕ) (w : List ℕ) (h : u < 8)
    (accepted : (act_tried s.logs u w).number ≡ 0) (room : s.made < 512) where
  abbrev call : Call
  call = acts u w (replicate 86020 0)

  abbrev o : Outcome
  o = act_tried s.logs u w

  -- the machine's outcome is that of the round
  outcome_is : done archive t call ≡ o
  unfolding done act_tried
  outcome_is = rw (sim.logs u h, sim.bases u)

  log_adds : Adds u (log_at s.logs u) w o
  unfolding act_tried
  log_adds = adds u (log_at s.logs u) w (replicate 86020 0) accepted

  r : Rec
  r = log_adds.made

  abbrev l : List Rec
  l = records_of (t.logs u)

  log_is : records_of (log_at s.logs u) ≡ l
  log_is = ap records_of (sym (sim.logs u h))

  number_is : num r ≡ suc (count u l)
  unfolding r
  number_is = log_adds.number ∙ ap (λ (x : List Rec). suc (count u x)) log_is

  unit_of_lem : unit r ≡ u
  unfolding r
  unit_of_lem = log_adds.unit_is

  t' : Bench
  t' = after t call o

  next_is : next archive t call ≡ t'
  unfolding next t'
  next_is = ap (after t call) outcome_is

  used_is : t'.used ≡ r ∷ t.used
  unfolding t' after uses r log_adds
  used_is =
      let k : if_accepted o (stamped u (base_vector (t.bases u)) (records_of (t.logs u)) w ∷ []) ≡ stamped u (base_vector (t.bases u)) (records_of (t.logs u)) w ∷ [] =
      accepted_is o (stamped u (base_vector (t.bases u)) (records_of (t.logs u)) w ∷ []) accepted in
      let q : stamped u (base_vector (t.bases u)) (records_of (t.logs u)) w ≡ r =
      ap (λ (b : List ℕ). stamped u (base_vector b) (records_of (t.logs u)) w) (sim.bases u)
      ∙ ap (λ (x : List ℕ). stamped u (base_vector empty_base) (records_of x) w) (sim.logs u h)
      ∙ sym log_adds.stamp in
      ap (λ (x : List Rec). x ++ t.used) (k ∙ ap (λ (x : Rec). x ∷ []) q)

  -- no record used has its identity
  new : (x : Rec) → Has x t.used → unit x ≡ unit r → num x ≡ num r → ⊥
  new x i a b =
      let k : num x ≤ count u t.used = subst (λ (y : ℕ). num x ≤ count y t.used) (a ∙ unit_of_lem) (sim.own x i) in
      omega (arith, number_is, sim.mine u h)

  once' : distinct (r ∷ t.used) ≡ true
  unfolding distinct
  once' = go (holds_cases t.used r)
    where
      go : Held t.used r → (not (holds t.used r) && distinct t.used) ≡ true
      go (inl (x, _, i, a, b)) = absurd (new x i a b)
      go (inr (e, _)) = rw (e, sim.once)

  own' : (x : Rec) → Has x (r ∷ t.used) → num x ≤ count (unit x) (r ∷ t.used)
  own' x (inl e) =
      let k = most archive s n t sim u u in
      let c : count (unit r) (r ∷ t.used) ≡ suc (count u t.used) = count_own r t.used ∙ ap (λ (y : ℕ). suc (count y t.used)) unit_of_lem in
      rw e (omega (arith, number_is))
  own' x (inr i) =
      ⊎_elim (λ k. omega (arith, k.1, sim.own x i)) (λ k. omega (arith, k.1, sim.own x i)) (count-cons (unit x) r t.used)

  records_are : records_of o.log ≡ l ++ (r ∷ [])
  unfolding r
  records_are = log_adds.records ∙ ap (λ (x : List Rec). x ++ (log_adds.made ∷ [])) log_is

  log_at_lem : (v : ℕ) → ((v ≡ u) × (t'.logs v ≡ o.log)) ⊎ ((v ≡ u → ⊥) × (t'.logs v ≡ t.logs v))
  unfolding t' after unit_of
  log_at_lem v = put_cases t.logs u o.log v

  mine' : (v : ℕ) → v < 8 → count v (r ∷ t.used) ≤ count v (records_of (t'.logs v))
  mine' v k =
      ⊎_elim
      (λ c.
      let e : v ≡ u = c.0 in
      let a : count v (records_of (t'.logs v)) ≡ count v l + count v (r ∷ []) = ap (λ (x : List ℕ). count v (records_of x)) c.1 ∙ ap (count v) records_are ∙ count-append v l (r ∷ []) in
      let b : count u t.used ≤ count u l = sim.mine u h in
      let b' : count v t.used ≤ count v l = subst (λ (x : ℕ). count x t.used ≤ count x l) (sym e) b in
      ⊎_elim
      (λ p. omega (arith, p.1, ⊎_elim (λ q. q.1) (λ q. absurd (q.0 p.0)) (count-cons v r []), a))
      (λ p. omega (arith, p.1, a))
      (count-cons v r t.used))
      (λ c.
      let a : count v (records_of (t'.logs v)) ≡ count v (records_of (t.logs v)) = ap (λ (x : List ℕ). count v (records_of x)) c.1 in
      let b = count_other v r t.used (λ e. c.0 (sym e ∙ unit_of_lem)) in
      omega (arith, sim.mine v k))
      (log_at_lem v)

  base_at : (v : ℕ) → t'.bases v ≡ empty_base
  unfolding t' after unit_of base_left
  base_at v = ⊎_elim (λ c. c.1 ∙ sim.bases u) (λ c. c.1 ∙ sim.bases v) (put_cases t.bases u (t.bases u) v)

  folded-at : (v : ℕ) → t'.folded v ≡ []
  unfolding t' after unit_of folded_left
  folded-at v = ⊎_elim (λ c. c.1 ∙ sim.folded u) (λ c. c.1 ∙ sim.folded v) (put_cases t.folded u (t.folded u) v)

  given_is : t'.given ≡ t.given
  unfolding t' after gives
  given_is = append-nil t.given

  pub act_sim : Sim archive (round (with_log s.logs u o.log) (suc s.made) s.skipped) n (next archive t call)
  act_sim =
      let g : Good o.log empty_base = act_good s.logs u sim.units h w in
      subst (Sim archive (round (with_log s.logs u o.log) (suc s.made) s.skipped) n) (sym next_is)
      (record {
        units = units_put s.logs u o.log sim.units h g;
        inv = subst (λ (x : Bench). Inv archive x) next_is (inv_next archive t call sim.inv);
        logs = λ v k.
            ⊎_elim
            (λ c. c.1 ∙ sym (subst (λ (x : ℕ). log_at (with_log s.logs u o.log) x ≡ o.log) (sym c.0) (log_put s.logs sim.units.long u h o.log g.long.0)))
            (λ c. c.1 ∙ sim.logs v k ∙ sym (log_other s.logs sim.units.long u h o.log g.long.0 v c.0))
            (log_at_lem v);
        bases = base_at;
        folded = folded-at;
        given = ap (λ (x : List Block). length x) given_is ∙ sim.given;
        once = ap distinct used_is ∙ once';
        made = ap (λ (x : List Rec). length x) used_is ∙ ap suc sim.made;
        few = omega arith;
        own = λ x i. subst (λ (y : List Rec). num x ≤ count (unit x) y) (sym used_is) (own' x (subst (Has x) used_is i));
        mine = λ v k. subst (λ (y : List Rec). count v y ≤ count v (records_of (t'.logs v))) (sym used_is) (mine' v k);
      })

  pub act-answers : (done archive t call).number ≡ 0
  act-answers = ap (λ (x : Outcome). x.number) outcome_is ∙ accepted
