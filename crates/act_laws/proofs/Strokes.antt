-- Exactly when an act answers 26, 7, 24, 28 or 11; strokes in the labels of wishes, and of which operations.
-- Assumes nothing.
use Prim.Native.Nat.{ℕ, zero, suc, ◌≤◌, ◌<◌}
use mathlib.Core.Path.{◌≡◌, refl, sym, ◌∙◌, subst}
use mathlib.Core.Bool.{Bool, true, false, ◌||◌, false≢true}
use mathlib.Core.Logic.{inl, inr, ⊎_elim, ◌↔◌}
use mathlib.Core.List.{List, [], ◌∷◌}
use native.Mathlib.Omega.{arith}
use lib.Dec.{eqb}
use lib.ListN.{get_or, length}
use borrow.Author.Tests.{eqb-true, eq-eqb, lt-ltb, le-ltb}
use Rattle.byte_slice.proofs.Numbers.{bool_cases}
use Rattle.model.specs.Record.{Rec, op, label_of, uses_label, unused, label_fits, well_formed, has_stroke}
use Rattle.model.specs.Log.{count_on}
use Rattle.model.specs.Replay.{Tree, Verdict, fits, aside, judge, replay_from, reason_of}
use Rattle.base_model.specs.Base.{is_listed}
use Rattle.call_model.specs.Outcome.{stamped, wish_fits, early_wish, act_number}
use Rattle.log_laws.proofs.Formed.{well_label, blank_no_stroke}
use Rattle.tree_laws.proofs.Verdicts.{Under, Reason, reason_range}
use Rattle.act_laws.proofs.Act.{stamped_label, stamped-op, wish_fits_lem, Refused, act_numbers}

-- ---- the test says what it should

pub stroke_exact : (t : List ℕ) → (has_stroke t ≡ true) ↔ ((i : ℕ) × (i < length t) × (get_or t i 0 ≡ 47))
unfolding has_stroke
stroke_exact t = (found t, λ (i, h, e). there t i h e)
  where
    found : (s : List ℕ) → has_stroke s ≡ true → (i : ℕ) × (i < length s) × (get_or s i 0 ≡ 47)
    found [] e = absurd (false≢true e)
    found (x ∷ s) e =
        ⊎_elim
        (λ (a : eqb x 47 ≡ true). (0, omega arith, eqb-true x 47 a))
        (λ (a : eqb x 47 ≡ false). let (i, h, k) = found s (rw a at e) in (suc i, omega arith, k))
        (bool_cases (eqb x 47))

    there : (s : List ℕ) (i : ℕ) → i < length s → get_or s i 0 ≡ 47 → has_stroke s ≡ true
    there [] i h e = absurd (omega arith)
    there (x ∷ s) zero h e = rw (eq-eqb x 47 e)
    there (x ∷ s) (suc i) h e = go (eqb x 47) (there s i (omega arith) e)
      where
        go : (b : Bool) → has_stroke s ≡ true → (b || has_stroke s) ≡ true
        go true k = refl
        go false k = k

-- ---- what an act answers

-- no reason is one of these numbers
no_reason : (x : ℕ) → ((12 ≤ x) × (x ≤ 18) → ⊥) → (x ≡ 25 → ⊥) → (x ≡ 0 → ⊥) → (v : Verdict) → Under Reason v → reason_of v ≡ x → ⊥
unfolding reason_of
no_reason x a b c fits h e = c (sym e)
no_reason x a b c (aside n k) h e = ⊎_elim (λ p. a (rw e at p)) (λ q. b (sym e ∙ q)) h

module _ (m u : ℕ) (v : List ℕ) (t : Tree) (l : List Rec) (w : List ℕ) where
  -- such a number is answered only where something fails
  refused_by : (x : ℕ) → ((12 ≤ x) × (x ≤ 18) → ⊥) → (x ≡ 25 → ⊥) → (x ≡ 0 → ⊥) → act_number m u v t l w ≡ x → Refused m u v l w x
  refused_by x a b c e =
      ⊎_elim
      (λ p. absurd (no_reason x a b c (judge (stamped u v l w) (replay_from t l)) (reason_range (stamped u v l w) (replay_from t l)) (sym p.1 ∙ e)))
      (λ (p : Refused m u v l w (act_number m u v t l w)). subst (Refused m u v l w) e p)
      (act_numbers m u v t l w)

  pub act-unlisted : (act_number m u v t l w ≡ 26) ↔ (is_listed m u ≡ false)
  unfolding act_number early_wish
  act-unlisted = (λ e. go (refused_by 26 (λ z. omega arith) (λ z. omega arith) (λ z. omega arith) e), λ a. rw a)
    where
      go : Refused m u v l w 26 → is_listed m u ≡ false
      go (inl a) = a.1
      go (inr (inl a)) = absurd (omega (arith, a.0))
      go (inr (inr (inl a))) = absurd (omega (arith, a.0))
      go (inr (inr (inr (inl a)))) = absurd (omega (arith, a.0))
      go (inr (inr (inr (inr a)))) = absurd (omega (arith, a.0))

  pub act-malformed : (act_number m u v t l w ≡ 7) ↔ ((is_listed m u ≡ true) × (wish_fits u v l w ≡ false))
  unfolding act_number early_wish
  act-malformed = (λ e. go (refused_by 7 (λ z. omega arith) (λ z. omega arith) (λ z. omega arith) e), λ (a, b). rw (a, b))
    where
      go : Refused m u v l w 7 → (is_listed m u ≡ true) × (wish_fits u v l w ≡ false)
      go (inl a) = absurd (omega (arith, a.0))
      go (inr (inl a)) = (a.1, a.2)
      go (inr (inr (inl a))) = absurd (omega (arith, a.0))
      go (inr (inr (inr (inl a)))) = absurd (omega (arith, a.0))
      go (inr (inr (inr (inr a)))) = absurd (omega (arith, a.0))

  pub act_stroke : (act_number m u v t l w ≡ 24) ↔ ((is_listed m u ≡ true) × (wish_fits u v l w ≡ true) × (has_stroke (label_of w) ≡ true))
  unfolding act_number early_wish
  act_stroke = (λ e. go (refused_by 24 (λ z. omega arith) (λ z. omega arith) (λ z. omega arith) e), λ (a, b, c). rw (a, b, c))
    where
      go : Refused m u v l w 24 → (is_listed m u ≡ true) × (wish_fits u v l w ≡ true) × (has_stroke (label_of w) ≡ true)
      go (inl a) = absurd (omega (arith, a.0))
      go (inr (inl a)) = absurd (omega (arith, a.0))
      go (inr (inr (inl a))) = (a.1, a.2, a.3)
      go (inr (inr (inr (inl a)))) = absurd (omega (arith, a.0))
      go (inr (inr (inr (inr a)))) = absurd (omega (arith, a.0))

  pub act_last_number : (act_number m u v t l w ≡ 28) ↔ ((is_listed m u ≡ true) × (wish_fits u v l w ≡ true) × (has_stroke (label_of w) ≡ false) × (65535 ≤ count_on v u l))
  unfolding act_number early_wish
  act_last_number = (
    λ e. go (refused_by 28 (λ z. omega arith) (λ z. omega arith) (λ z. omega arith) e),
    λ (a, b, c, d). rw (a, b, c, le-ltb (count_on v u l) 65535 d),
  )
    where
      go : Refused m u v l w 28 → (is_listed m u ≡ true) × (wish_fits u v l w ≡ true) × (has_stroke (label_of w) ≡ false) × (65535 ≤ count_on v u l)
      go (inl a) = absurd (omega (arith, a.0))
      go (inr (inl a)) = absurd (omega (arith, a.0))
      go (inr (inr (inl a))) = absurd (omega (arith, a.0))
      go (inr (inr (inr (inl a)))) = (a.1, a.2, a.3, a.4)
      go (inr (inr (inr (inr a)))) = absurd (omega (arith, a.0))

  pub act_full : (act_number m u v t l w ≡ 11)
      ↔ ((is_listed m u ≡ true) × (wish_fits u v l w ≡ true) × (has_stroke (label_of w) ≡ false) × (count_on v u l < 65535) × (512 ≤ length l))
  unfolding act_number early_wish
  act_full = (
    λ e. go (refused_by 11 (λ z. omega arith) (λ z. omega arith) (λ z. omega arith) e),
    λ (a, b, c, d, f). rw (a, b, c, lt-ltb (count_on v u l) 65535 d, le-ltb (length l) 512 f),
  )
    where
      go : Refused m u v l w 11 → (is_listed m u ≡ true) × (wish_fits u v l w ≡ true) × (has_stroke (label_of w) ≡ false) × (count_on v u l < 65535) × (512 ≤ length l)
      go (inl a) = absurd (omega (arith, a.0))
      go (inr (inl a)) = absurd (omega (arith, a.0))
      go (inr (inr (inl a))) = absurd (omega (arith, a.0))
      go (inr (inr (inr (inl a)))) = absurd (omega (arith, a.0))
      go (inr (inr (inr (inr a)))) = (a.1, a.2, a.3, a.4, a.5)

-- ---- wishes without a label

stroke_used : (r : Rec) → well_formed r ≡ true → has_stroke (label_of r) ≡ true → uses_label (op r) ≡ true
unfolding label_fits unused label_of
stroke_used r e s =
    ⊎_elim
    (λ (a : uses_label (op r) ≡ true). a)
    (λ (a : uses_label (op r) ≡ false).
    absurd (false≢true (sym (blank_no_stroke (label_of r) (rw a at (well_label r e))) ∙ s)))
    (bool_cases (uses_label (op r)))

-- only a wish of an operation that uses a label is answered 24
pub stroke_of_a_label : (m u : ℕ) (v : List ℕ) (t : Tree) (l : List Rec) (w : List ℕ) → length w ≡ 80 → act_number m u v t l w ≡ 24 → uses_label (get_or w 1 0) ≡ true
stroke_of_a_label m u v t l w n e =
    let (_, a, s) = (act_stroke m u v t l w).0 e in
    let k = stroke_used (stamped u v l w) (wish_fits_lem u v l w a).1 (rw (stamped_label u v l w n) s) in
    rw (stamped-op u v l w n) at k
