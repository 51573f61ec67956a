-- The machine without the checks that a reachable bench is known to pass, so that an example computes quickly.
-- Assumes nothing.
use Prim.Native.Nat.{ℕ}
use mathlib.Core.Path.{◌≡◌, refl, sym, ap, ◌∙◌}
use mathlib.Core.Bool.{Bool, true, false, cond, ◌&&◌}
use mathlib.Core.List.{List, [], ◌∷◌, ◌++◌}
use lib.Dec.{ltb, leb, eqb}
use lib.ListN.{length}
use borrow.Author.Tests.{ltb-true, leb-true}
use Rattle.model.specs.Record.{Rec}
use Rattle.model.specs.Log.{records_of}
use Rattle.model.specs.Block.{block_records, given_fault}
use Rattle.base_model.specs.Base.{base_vector, base_in}
use Rattle.call_model.specs.Outcome.{Outcome, guarded, act_number, acted, act_lent, act_of, handed, hand_of, written, write_of, takes_all, took_all, took_block, take_of}
use Rattle.call_model.specs.Fold.{fold_by, fold_of}
use Rattle.log_laws.proofs.Members.{all_at}
use Rattle.call_laws.proofs.Calls.{guarded-passes}
use Rattle.machine.specs.Machine.{Call, starts, acts, hands_out, writes, takes, folds, Bench, block_given, done, after, next, play, outcomes}
use Rattle.machine.specs.Claim.{passes, passing, flow_of, flow}
use Rattle.machine.proofs.Reach.{Given, Inv, inv_next}

-- log and base are taken to be good, and a block that was given to have no fault
unfoldable pub quick : ℕ → Bench → Call → Outcome
quick archive s (starts u) = done archive s (starts u)
quick archive s (acts u w work) =
    let log : List ℕ = s.logs u in
    let base : List ℕ = s.bases u in
    cond (leb u 7 && act_lent w work)
    (acted u log (base_vector base) w (act_number (base_in base).list u (base_vector base) (base_in base).tree (records_of log) w))
    (done archive s (acts u w work))
quick archive s (hands_out u v lent) =
    cond (leb u 7 && eqb (length lent) 512) (handed archive u (s.logs u) (s.bases u) v lent) (done archive s (hands_out u v lent))
quick archive s (writes u lent) =
    cond (leb u 7 && eqb (length lent) 44032) (written archive u (s.logs u) (s.bases u) lent) (done archive s (writes u lent))
quick archive s (takes u n) =
    let log : List ℕ = s.logs u in
    let base : List ℕ = s.bases u in
    cond (leb u 7 && ltb n (length s.given))
    (took_all log (takes_all (base_in base).list (base_vector base) (records_of log) (block_records (block_given s n).bytes)))
    (done archive s (takes u n))
quick archive s (folds u m work) =
    cond (leb u 7 && eqb (length work) 86020) (fold_by m u (s.logs u) (s.bases u)) (done archive s (folds u m work))

-- a shortcut that is right where its test holds
either : (a b : Bool) (x y : Outcome) → (a ≡ true → b ≡ true → x ≡ y) → cond (a && b) x y ≡ y
either true true x y h = h refl refl
either true false x y h = refl
either false b x y h = refl

module _ (archive : ℕ) (s : Bench) (i : Inv archive s) where
  past : (u : ℕ) (lent : List ℕ) (ok : Bool) (o : Outcome) → leb u 7 ≡ true → ok ≡ true → o ≡ guarded u (s.logs u) (s.bases u) lent ok o
  past u lent ok o a b = sym (guarded-passes u (s.logs u) (s.bases u) lent ok o b (leb-true u 7 a) (i.good u))

  no_fault : (n : ℕ) → ltb n (length s.given) ≡ true → given_fault archive (block_given s n).bytes ≡ 0
  unfolding block_given
  no_fault n b = (all_at (Given archive s.used) s.given n (record { giver = 0; bytes = [] }) (ltb-true n (length s.given) b) i.blocked).0

  pub quick_is : (c : Call) → quick archive s c ≡ done archive s c
  unfolding quick done act_of hand_of write_of take_of took_block fold_of
  quick_is (starts u) = refl
  quick_is (acts u w work) =
      let log : List ℕ = s.logs u in
      let base : List ℕ = s.bases u in
      either (leb u 7) (act_lent w work) _ _
      (past u [] (act_lent w work) (acted u log (base_vector base) w (act_number (base_in base).list u (base_vector base) (base_in base).tree (records_of log) w)))
  quick_is (hands_out u v lent) = either (leb u 7) (eqb (length lent) 512) _ _ (past u lent (eqb (length lent) 512) (handed archive u (s.logs u) (s.bases u) v lent))
  quick_is (writes u lent) = either (leb u 7) (eqb (length lent) 44032) _ _ (past u lent (eqb (length lent) 44032) (written archive u (s.logs u) (s.bases u) lent))
  quick_is (takes u n) =
      let g : List ℕ = (block_given s n).bytes in
      either (leb u 7) (ltb n (length s.given)) _ _
      (λ a b.
      ap (took_block (s.logs u) (s.bases u) g) (sym (no_fault n b)) ∙ past u [] true (took_block (s.logs u) (s.bases u) g (given_fault archive g)) a refl)
  quick_is (folds u m work) =
      either (leb u 7) (eqb (length work) 86020) _ _ (past u (s.bases u) (eqb (length work) 86020) (fold_by m u (s.logs u) (s.bases u)))

  next_is : (c : Call) → after s c (quick archive s c) ≡ next archive s c
  unfolding next
  next_is c = ap (after s c) (quick_is c)

-- ---- a list of calls

unfoldable pub quick_play : ℕ → Bench → List Call → Bench
quick_play archive s [] = s
quick_play archive s (c ∷ cs) = quick_play archive (after s c (quick archive s c)) cs

unfoldable pub quick_outcomes : ℕ → Bench → List Call → List Outcome
quick_outcomes archive s [] = []
quick_outcomes archive s (c ∷ cs) = quick archive s c ∷ quick_outcomes archive (after s c (quick archive s c)) cs

unfoldable pub quick_passing : ℕ → ℕ → ℕ → ℕ → Bench → List Call → Bool
quick_passing archive a b n s [] = true
quick_passing archive a b n s (c ∷ cs) = passes a b n s c && quick_passing archive a b n (after s c (quick archive s c)) cs

unfoldable pub quick_flow : ℕ → ℕ → Bench → List Call → List Rec
quick_flow archive b s [] = []
quick_flow archive b s (c ∷ cs) = flow_of b s c ++ quick_flow archive b (after s c (quick archive s c)) cs

module _ (archive : ℕ) where
  pub play_is : (cs : List Call) (s : Bench) → Inv archive s → quick_play archive s cs ≡ play archive s cs
  unfolding quick_play play
  play_is [] s i = refl
  play_is (c ∷ cs) s i = ap (λ (t : Bench). quick_play archive t cs) (next_is archive s i c) ∙ play_is cs (next archive s c) (inv_next archive s c i)

  pub outcomes_is : (cs : List Call) (s : Bench) → Inv archive s → quick_outcomes archive s cs ≡ outcomes archive s cs
  unfolding quick_outcomes outcomes
  outcomes_is [] s i = refl
  outcomes_is (c ∷ cs) s i =
      rw (next_is archive s i c, quick_is archive s i c) (ap (λ (l : List Outcome). done archive s c ∷ l) (outcomes_is cs (next archive s c) (inv_next archive s c i)))

  pub passing_is : (a b n : ℕ) (cs : List Call) (s : Bench) → Inv archive s → quick_passing archive a b n s cs ≡ passing archive a b n s cs
  unfolding quick_passing passing
  passing_is a b n [] s i = refl
  passing_is a b n (c ∷ cs) s i =
      rw (next_is archive s i c) (ap (λ (t : Bool). passes a b n s c && t) (passing_is a b n cs (next archive s c) (inv_next archive s c i)))

  pub flow_is : (b : ℕ) (cs : List Call) (s : Bench) → Inv archive s → quick_flow archive b s cs ≡ flow archive b s cs
  unfolding quick_flow flow
  flow_is b [] s i = refl
  flow_is b (c ∷ cs) s i = rw (next_is archive s i c) (ap (λ (l : List Rec). flow_of b s c ++ l) (flow_is b cs (next archive s c) (inv_next archive s c i)))
