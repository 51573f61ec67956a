-- A pass on the plain machine beside the same pass of a round: it is never refused.
-- Assumes nothing.
use Prim.Native.Nat.{ℕ, suc, ◌+◌, ◌≤◌, ◌<◌}
use native.Mathlib.Nat.{add-zero}
use native.Mathlib.Omega.{arith}
use mathlib.Core.Path.{◌≡◌, refl, sym, ap, subst, ◌∙◌}
use mathlib.Core.Logic.{◌⊎◌, inl, inr, ⊎_elim}
use mathlib.Core.Bool.{true}
use mathlib.Core.List.{List, [], ◌∷◌, ◌++◌, append-nil}
use lib.ListN.{length, get_or, replicate, length-append}
use lib.Seq.{get_or-append-add}
use Rattle.model.specs.Record.{Rec, unit, num}
use Rattle.model.specs.Log.{count, vector_of, records_of, log_bytes, lacking}
use Rattle.model.specs.Block.{block_records}
use Rattle.base_model.specs.Base.{empty_base, base_vector, held_on}
use Rattle.call_model.specs.Outcome.{Outcome, hand_of, take_of}
use Rattle.log_laws.specs.Members.{Has, Agree}
use Rattle.log_laws.proofs.Same.{counts_sub_on}
use Rattle.call_laws.specs.Keeps.{Good}
use Rattle.call_laws.proofs.States.{good_records}
use Rattle.call_laws.proofs.Calls.{take_grown, take_cases}
use Rattle.machine.specs.Machine.{Call, hands_out, takes, unit_of, Block, Bench, block_given, done, gives, uses, base_left, folded_left, put, after, next}
use Rattle.machine.specs.Meeting as M
use Rattle.machine.specs.Claim.{distinct}
use Rattle.machine.proofs.Meeting.{every_meeting}
use Rattle.machine.proofs.Unfolded.{unfolded, back, whole, vector_is, may_meet}
use Rattle.machine.proofs.Stores.{accepted_is, hand_log}
use Rattle.machine.proofs.Reach.{Inv, inv_next, put_cases}
use Rattle.plan_model.specs.Plan.{Round, round, log_at, with_log, true_vector, pass_handed, pass_taken}
use Rattle.plan_units.specs.Units.{Units}
use Rattle.plan_units.proofs.Logs.{units_put, log_put, log_other}
use Rattle.plan_units.proofs.Events.{pass_good}
use Rattle.plan_laws.proofs.Sim.{Sim, log_sound, log_few, log_back, logs_agree, together}

-- ---- taking leaves no count lower

pub take-counts : (archive u : ℕ) (log b : List ℕ) (v : ℕ) → Good log empty_base → count v (records_of log) ≤ count v (records_of (take_of archive u log empty_base b).log)
take-counts archive u log b v g =
    ⊎_elim
    (λ e. rw e (omega arith))
    (λ c.
    let (m, e, k, _) = c in
    let w = take_grown log empty_base (block_records b) m g e in
    rw k (counts_sub_on (base_vector empty_base) (records_of log) m (good_records log empty_base g) w.sound w.kept v))
    (take_cases archive u log empty_base b)

module _ (archive : ℕ) (s : Round) (n : ℕ) (t : Bench) (sim : Sim archive s n t) (a b : ℕ) (ha : a < 8) (hb : b < 8) where
  -- ---- by the meeting rule neither call is refused

  abbrev A : List Rec
  A = records_of (t.logs a)

  abbrev B : List Rec
  B = records_of (t.logs b)

  a_is : log_bytes A ≡ log_at s.logs a
  a_is = log_back archive s n t sim a ∙ sim.logs a ha

  b_is : log_bytes B ≡ log_at s.logs b
  b_is = log_back archive s n t sim b ∙ sim.logs b hb

  meets : M.Meets archive a b (unfolded A) (unfolded B)
  unfolding M.lacked_by
  meets =
      let s_a = log_sound archive s n t sim a in
      let s_b = log_sound archive s n t sim b in
      let fA = log_few archive s n t sim a in
      let fB = log_few archive s n t sim b in
      let kA : records_of (log_bytes A) ≡ A = back A s_a fA in
      let kB : records_of (log_bytes B) ≡ B = back B s_b fB in
      let apart : Agree A B = logs_agree archive s n t sim a b in
      let fit : length (M.lacked_by (unfolded A) (unfolded B)) + length (records_of (log_bytes B)) ≤ 512 = rw (vector_is B s_b fB, kA, kB) (together archive s n t sim a b) in
      every_meeting archive a b (unfolded A) (unfolded B) ha hb (whole A s_a fA) (whole B s_b fB) (rw (kA, kB) apart) (may_meet A s_a fA (unfolded B) refl) fit

  pub hand_answers : (pass_handed archive s.logs a b).number ≡ 0
  unfolding pass_handed true_vector M.handed M.meet
  hand_answers = rw (a_is, b_is) at (meets.handing 0)

  pub take-answers : (pass_taken archive s.logs a b).number ≡ 0
  unfolding pass_taken pass_handed true_vector M.round M.handed M.meet
  take-answers = rw (a_is, b_is) at (meets.taking 0)

  -- ---- the bench behind the hand_out

  abbrev handing : Call
  handing = hands_out a (true_vector s.logs b) (replicate 512 0)

  abbrev h : Outcome
  h = pass_handed archive s.logs a b

  handed_is : done archive t handing ≡ h
  unfolding done pass_handed
  handed_is = rw (sim.logs a ha, sim.bases a)

  abbrev block : Block
  block = record { giver = a; bytes = h.lent }

  t₁ : Bench
  t₁ = after t handing h

  next₁ : next archive t handing ≡ t₁
  unfolding next t₁
  next₁ = ap (after t handing) handed_is

  hand_left : h.log ≡ t.logs a
  unfolding pass_handed
  hand_left = hand_log archive a (log_at s.logs a) empty_base (true_vector s.logs b) (replicate 512 0) ∙ sym (sim.logs a ha)

  log₁ : (v : ℕ) → t₁.logs v ≡ t.logs v
  unfolding t₁ after unit_of
  log₁ v = ⊎_elim (λ c. c.1 ∙ hand_left ∙ ap t.logs (sym c.0)) (λ c. c.1) (put_cases t.logs a h.log v)

  base₁ : (v : ℕ) → t₁.bases v ≡ empty_base
  unfolding t₁ after unit_of base_left
  base₁ v = ⊎_elim (λ c. c.1 ∙ sim.bases a) (λ c. c.1 ∙ sim.bases v) (put_cases t.bases a (t.bases a) v)

  folded₁ : (v : ℕ) → t₁.folded v ≡ []
  unfolding t₁ after unit_of folded_left
  folded₁ v = ⊎_elim (λ c. c.1 ∙ sim.folded a) (λ c. c.1 ∙ sim.folded v) (put_cases t.folded a (t.folded a) v)

  given₁ : t₁.given ≡ t.given ++ (block ∷ [])
  unfolding t₁ after gives
  given₁ = ap (λ (x : List Block). t.given ++ x) (accepted_is {A = Block} h (record { giver = a; bytes = h.lent } ∷ []) hand_answers)

  used₁ : t₁.used ≡ t.used
  unfolding t₁ after uses
  used₁ = refl

  inv₁ : Inv archive t₁
  inv₁ = subst (Inv archive) next₁ (inv_next archive t handing sim.inv)

  -- ---- and behind the take

  abbrev taking : Call
  taking = takes b n

  abbrev o : Outcome
  o = pass_taken archive s.logs a b

  given_at : block_given t₁ n ≡ block
  unfolding block_given
  given_at =
      let d : Block = record { giver = 0; bytes = [] } in
      let k : length t.given + 0 ≡ n = add-zero (length t.given) ∙ sim.given in
      ap (λ (x : List Block). get_or x n d) given₁
      ∙ ap (λ (i : ℕ). get_or (t.given ++ (block ∷ [])) i d) (sym k)
      ∙ get_or-append-add t.given (block ∷ []) 0 d

  taken_is : done archive t₁ taking ≡ o
  unfolding done pass_taken
  taken_is = rw (log₁ b, sim.logs b hb, base₁ b, given_at)

  t₂ : Bench
  t₂ = after t₁ taking o

  next₂ : next archive t₁ taking ≡ t₂
  unfolding next t₂
  next₂ = ap (after t₁ taking) taken_is

  log₂ : (v : ℕ) → ((v ≡ b) × (t₂.logs v ≡ o.log)) ⊎ ((v ≡ b → ⊥) × (t₂.logs v ≡ t.logs v))
  unfolding t₂ after unit_of
  log₂ v = ⊎_elim (λ c. inl c) (λ c. inr (c.0, c.1 ∙ log₁ v)) (put_cases t₁.logs b o.log v)

  base₂ : (v : ℕ) → t₂.bases v ≡ empty_base
  unfolding t₂ after unit_of base_left
  base₂ v = ⊎_elim (λ c. c.1 ∙ base₁ b) (λ c. c.1 ∙ base₁ v) (put_cases t₁.bases b (t₁.bases b) v)

  folded₂ : (v : ℕ) → t₂.folded v ≡ []
  unfolding t₂ after unit_of folded_left
  folded₂ v = ⊎_elim (λ c. c.1 ∙ folded₁ b) (λ c. c.1 ∙ folded₁ v) (put_cases t₁.folded b (t₁.folded b) v)

  given₂ : length t₂.given ≡ suc n
  unfolding t₂ after gives
  given₂ =
      ap (λ (x : List Block). length x) (append-nil t₁.given ∙ given₁)
      ∙ (let k = length-append t.given (block ∷ []) in omega (arith, sim.given))

  used₂ : t₂.used ≡ t.used
  unfolding t₂ after uses
  used₂ = used₁

  mine₂ : (v : ℕ) → v < 8 → count v t.used ≤ count v (records_of (t₂.logs v))
  unfolding pass_taken
  mine₂ v k =
      ⊎_elim
      (λ c.
      let l : count v (records_of (log_at s.logs b)) ≤ count v (records_of o.log) = take-counts archive b (log_at s.logs b) (pass_handed archive s.logs a b).lent v (sim.units.good b hb) in
      let p : count v (records_of (t.logs v)) ≡ count v (records_of (log_at s.logs b)) =
      ap (λ (x : List ℕ). count v (records_of x)) (ap t.logs c.0 ∙ sim.logs b hb) in
      let q : count v (records_of (t₂.logs v)) ≡ count v (records_of o.log) = ap (λ (x : List ℕ). count v (records_of x)) c.1 in
      omega (arith, sim.mine v k))
      (λ c. rw c.1 (sim.mine v k))
      (log₂ v)

  after_both : next archive (next archive t handing) taking ≡ t₂
  after_both = ap (λ (x : Bench). next archive x taking) next₁ ∙ next₂

  pub pass_sim : Sim archive (round (with_log s.logs b o.log) s.made s.skipped) (suc n) (next archive (next archive t handing) taking)
  pass_sim =
      let g : Good o.log empty_base = pass_good s.logs b sim.units hb archive a in
      subst (Sim archive (round (with_log s.logs b o.log) s.made s.skipped) (suc n)) (sym after_both)
      (record {
        units = units_put s.logs b o.log sim.units hb g;
        inv = subst (Inv archive) next₂ (inv_next archive t₁ taking inv₁);
        logs = λ v k.
            ⊎_elim
            (λ c. c.1 ∙ sym (subst (λ (x : ℕ). log_at (with_log s.logs b o.log) x ≡ o.log) (sym c.0) (log_put s.logs sim.units.long b hb o.log g.long.0)))
            (λ c. c.1 ∙ sim.logs v k ∙ sym (log_other s.logs sim.units.long b hb o.log g.long.0 v c.0))
            (log₂ v);
        bases = base₂;
        folded = folded₂;
        given = given₂;
        once = ap distinct used₂ ∙ sim.once;
        made = ap (λ (x : List Rec). length x) used₂ ∙ sim.made;
        few = sim.few;
        own = λ x i. subst (λ (y : List Rec). num x ≤ count (unit x) y) (sym used₂) (sim.own x (subst (Has x) used₂ i));
        mine = λ v k. subst (λ (y : List Rec). count v y ≤ count v (records_of (t₂.logs v))) (sym used₂) (mine₂ v k);
      })

  pub hand_zero : (done archive t handing).number ≡ 0
  hand_zero = ap (λ (x : Outcome). x.number) handed_is ∙ hand_answers

  pub take_zero : (done archive (next archive t handing) taking).number ≡ 0
  take_zero = ap (λ (x : Bench). (done archive x taking).number) next₁ ∙ ap (λ (x : Outcome). x.number) taken_is ∙ take-answers
