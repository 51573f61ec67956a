-- The ways out of trying a plan, over plain values.
-- Assumes nothing.
use Prim.Native.Nat.{ℕ, ◌+◌, ◌≤◌, ◌<◌}
use native.Mathlib.Omega.{arith}
use mathlib.Core.Path.{◌≡◌, refl, sym, ap, ◌∙◌}
use mathlib.Core.Bool.{cond}
use mathlib.Core.List.{List}
use lib.Dec.{eqb}
use lib.ListN.{length, replicate}
use borrow.Author.Tests.{eq-eqb, ne_eqb}
use Rattle.model.specs.File.{Fault, fault}
use Rattle.model.specs.Listing.{refused_line}
use Rattle.base_model.specs.Base.{empty_base}
use Rattle.line_text.specs.Written.{Wrote}
use Rattle.plan_model.specs.Plan.{plan_fault, Round, round, round_of, round_text, plan_text, planned, planned_round, planned_refusal, planned_of}

-- ---- what is lent

module _ (f logs base work text : List ℕ) {n p k : ℕ} (en : n ≡ 1) (ep : p ≡ 0) (ek : k ≡ 0) where
  pub text_wrong : (length text ≡ 1024 → ⊥) → planned n p k logs base work text ≡ planned_of f logs base work text
  unfolding planned_of
  text_wrong d = rw (en, ep, ek, ne_eqb (length text) 1024 d)

  module _ (t : length text ≡ 1024) where
    pub base_wrong : (length base ≡ 43032 → ⊥) → planned n p k logs base work text ≡ planned_of f logs base work text
    unfolding planned_of
    base_wrong d = rw (en, ep, ek, eq-eqb (length text) 1024 t, ne_eqb (length base) 43032 d)

    module _ (b : length base ≡ 43032) where
      pub work_wrong : (length work ≡ 86020 → ⊥) → planned n p k logs base work text ≡ planned_of f logs base work text
      unfolding planned_of
      work_wrong d = rw (en, ep, ek, eq-eqb (length text) 1024 t, eq-eqb (length base) 43032 b, ne_eqb (length work) 86020 d)

      pub logs_wrong : length work ≡ 86020 → (length logs ≡ 327680 → ⊥) → planned n p k logs base work text ≡ planned_of f logs base work text
      unfolding planned_of
      logs_wrong w d =
          rw (en, ep, ek, eq-eqb (length text) 1024 t, eq-eqb (length base) 43032 b, eq-eqb (length work) 86020 w, ne_eqb (length logs) 327680 d)

-- ---- a refusal, and a round

pub accepted : (f : List ℕ) (n p : ℕ) → fault n p ≡ plan_fault f → n ≡ 0 → (plan_fault f).number ≡ 0
unfolding fault
accepted f n p e z = ap (λ (x : Fault). x.number) (sym e) ∙ z

same_text : (f : List ℕ) (n p : ℕ) {s : ℕ} {logs : List ℕ} → fault n p ≡ plan_fault f → n ≡ 0 → logs ≡ (round_of f).logs → s ≡ (round_of f).skipped
    → round_text (round logs 0 s) ≡ plan_text f
unfolding plan_text round_text
same_text f n p e z el es = rw (eq-eqb (plan_fault f).number 0 (accepted f n p e z), el, es)

module _ (f logs base work text : List ℕ) (t : length text ≡ 1024) (b : length base ≡ 43032) (w : length work ≡ 86020) (l : length logs ≡ 327680) (n p : ℕ) (ef : fault n p ≡ plan_fault f) where
  lent : planned_of f logs base work text ≡ cond (eqb (plan_fault f).number 0) (planned_round f text) (planned_refusal (plan_fault f) logs base work text)
  unfolding planned_of
  lent = rw (eq-eqb (length text) 1024 t, eq-eqb (length base) 43032 b, eq-eqb (length work) 86020 w, eq-eqb (length logs) 327680 l)

  pub refuses : {m r : ℕ} {after : List ℕ} → m ≡ n → (n ≡ 0 → ⊥) → Wrote text after 0 r (refused_line m p) → planned n p r logs base work after ≡ planned_of f logs base work text
  unfolding planned_refusal fault
  refuses {m} {r} {after} em z x =
      let k : r ≡ length (refused_line m p) = omega (arith, x.next) in
      rw (lent, ← ef, ne_eqb n 0 z, x.bytes, k, em)

  pub comes_to_lem : {r s : ℕ} {logs' base' work' after : List ℕ} → n ≡ 0 → logs' ≡ (round_of f).logs → s ≡ (round_of f).skipped → base' ≡ empty_base → work' ≡ replicate 86020 0
      → Wrote text after 0 r (round_text (round logs' 0 s)) → planned 0 0 r logs' base' work' after ≡ planned_of f logs base work text
  unfolding planned_round
  comes_to_lem {r} {s} {logs'} z el es eb ew x =
      let q = same_text f n p ef z el es in
      let k : r ≡ length (round_text (round logs' 0 s)) = omega (arith, x.next) in
      rw (lent, eq-eqb (plan_fault f).number 0 (accepted f n p ef z), x.bytes, k, q, el, eb, ew)
