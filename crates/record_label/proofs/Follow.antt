-- Labels byte by byte: a label is told by its first byte, its last, and each pair of neighbours.
-- Assumes nothing.
use Prim.Native.Nat.{ℕ, zero, suc, ◌+◌, ◌-◌, ◌≤◌, ◌<◌}
use native.Mathlib.Nat.{zero-add}
use native.Mathlib.Numerals.{add-one}
use native.Mathlib.Omega.{arith}
use mathlib.Core.Path.{◌≡◌, refl, sym, ◌∙◌}
use mathlib.Core.Logic.{◌⊎◌, inl, inr, ⊎_elim}
use mathlib.Core.Bool.{Bool, true, false, cond, not, ◌&&◌}
use mathlib.Core.List.{List, [], ◌∷◌}
use lib.Dec.{leb, eqb}
use lib.ListN.{get_or, length, get_or-eq_default}
use borrow.Author.Tests.{leb-true, eqb-true, eqb-false, le-leb, eq-eqb, ne_eqb, not-true, not-false}
use Rattle.model.specs.Record.{text_length, is_label}
use Rattle.byte_slice.proofs.Numbers.{lt_or_ge, and_true, or_true, true_and, test_false, not_both}
use Rattle.record_label.specs.Label.{Label}
use Rattle.record_label.specs.Follow.{follows, follow_to}
use Rattle.record_label.proofs.Claims.{label_means, a_label, text_within}

-- ---- one pair

follows_means : (x y : ℕ) → follows x y ≡ true → ((y ≡ 0) × (x ≡ 32 → ⊥)) ⊎ ((x ≡ 0 → ⊥) × (32 ≤ y) × (y ≤ 126))
unfolding follows
follows_means x y e =
    ⊎_elim
    (λ h. let (p, q) = and_true (eqb y 0) (not (eqb x 32)) h in inl (eqb-true y 0 p, eqb-false x 32 (not-true (eqb x 32) q)))
    (λ h.
    let (p, q) = and_true (not (eqb x 0)) (leb 32 y && leb y 126) h in
    let (a, b) = and_true (leb 32 y) (leb y 126) q in
    inr (eqb-false x 0 (not-true (eqb x 0) p), leb-true 32 y a, leb-true y 126 b))
    (or_true (eqb y 0 && not (eqb x 32)) (not (eqb x 0) && (leb 32 y && leb y 126)) e)

zero_follows : (x y : ℕ) → y ≡ 0 → (x ≡ 32 → ⊥) → follows x y ≡ true
unfolding follows
zero_follows x y e n = rw (eq-eqb y 0 e, ne_eqb x 32 n)

byte_follows : (x y : ℕ) → (x ≡ 0 → ⊥) → 32 ≤ y → y ≤ 126 → follows x y ≡ true
unfolding follows
byte_follows x y n a b = rw (ne_eqb y 0 (λ (e : y ≡ 0). omega arith), ne_eqb x 0 n, le-leb 32 y a, le-leb y 126 b)

-- ---- runs of pairs

run_at : (t : List ℕ) (at n : ℕ) → follow_to t at n ≡ true → (i : ℕ) → i < n → follows (get_or t (at + i) 0) (get_or t (at + i + 1) 0) ≡ true
unfolding follow_to
run_at t at zero e i h = absurd (omega arith)
run_at t at (suc n) e i h =
    let (p, q) = and_true (follow_to t at n) (follows (get_or t (at + n) 0) (get_or t (at + n + 1) 0)) e in
    ⊎_elim (λ k. run_at t at n p i k) (λ k. let m : i ≡ n = omega arith in rw m q) (lt_or_ge i n)

all_run : (t : List ℕ) (at n : ℕ) → ((i : ℕ) → i < n → follows (get_or t (at + i) 0) (get_or t (at + i + 1) 0) ≡ true) → follow_to t at n ≡ true
unfolding follow_to
all_run t at zero f = refl
all_run t at (suc n) f =
    true_and (follow_to t at n) (follows (get_or t (at + n) 0) (get_or t (at + n + 1) 0)) (all_run t at n (λ i k. f i (omega arith))) (f n (omega arith))

-- what the loops are asked, over plain values
pub no_run : (t : List ℕ) (at : ℕ) → true ≡ follow_to t at 0
unfolding follow_to
no_run t at = refl

module _ (t : List ℕ) (at i : ℕ) (g : Bool) (inv : g ≡ follow_to t at i) where
  pub run-next : {r : Bool} → r ≡ follows (get_or t (at + i) 0) (get_or t (at + i + 1) 0) → (g && r) ≡ follow_to t at (i + 1)
  unfolding follow_to
  run-next e = rw (add-one, e, inv)

  pub run_end : (n : ℕ) → i ≤ n → n ≤ i → g ≡ follow_to t at n
  run_end n h k = let e : i ≡ n = omega arith in (rw e at inv)

-- a run within another
within_run : (t : List ℕ) (at m n : ℕ) → at + m ≤ n → follow_to t 0 n ≡ true → follow_to t at m ≡ true
within_run t at m n h e = all_run t at m (λ i k. rw zero-add at (run_at t 0 n e (at + i) (omega arith)))

-- what `all_follow` is asked, over plain values
module _ (t : List ℕ) (n : ℕ) (p : Bool) (field : n ≡ 31) (first : p ≡ follow_to t 0 16) where
  pub front_fails : not p ≡ true → false ≡ follow_to t 0 n
  front_fails g = sym (test_false (follow_to t 0 n) (λ e. not_both p (first ∙ within_run t 0 16 n (omega arith) e) (not-true p g)))

  pub back_tells : {r : Bool} → not p ≡ false → r ≡ follow_to t 15 16 → r ≡ follow_to t 0 n
  back_tells {r} g e = go (follow_to t 15 16) refl
    where
      go : (b : Bool) → follow_to t 15 16 ≡ b → r ≡ follow_to t 0 n
      go true k =
          let whole : follow_to t 0 n ≡ true =
          all_run t 0 n (λ i l.
          ⊎_elim
          (λ (m : i < 16). run_at t 0 16 (sym first ∙ not-false p g) i m)
          (λ (m : 16 ≤ i).
          let q : 15 + (i - 15) ≡ 0 + i = omega arith in
          rw q at (run_at t 15 16 k (i - 15) (omega arith)))
          (lt_or_ge i 16)) in
          e ∙ (k ∙ sym whole)
      go false k = e ∙ (k ∙ sym (test_false (follow_to t 0 n) (λ w. not_both (follow_to t 15 16) (within_run t 15 16 n (omega arith) w) k)))

-- ---- the text before the first zero

text_nonzero : (t : List ℕ) (i : ℕ) → i < text_length t → get_or t i 0 ≡ 0 → ⊥
unfolding text_length
text_nonzero [] i h e = omega arith
text_nonzero (x ∷ t) zero h e = let z : 0 < 0 = rw (eq-eqb x 0 e) at h in omega arith
text_nonzero (x ∷ t) (suc i) h e = go (eqb x 0) h (λ k. text_nonzero t i k e)
  where
    go : (b : Bool) → suc i < cond b 0 (suc (text_length t)) → (i < text_length t → ⊥) → ⊥
    go true k f = omega arith
    go false k f = f (omega arith)

text_zero : (t : List ℕ) → get_or t (text_length t) 0 ≡ 0
unfolding text_length
text_zero [] = refl
text_zero (x ∷ t) = go (eqb x 0) refl (text_zero t)
  where
    go : (b : Bool) → eqb x 0 ≡ b → get_or t (text_length t) 0 ≡ 0 → get_or (x ∷ t) (cond b 0 (suc (text_length t))) 0 ≡ 0
    go true e z = eqb-true x 0 e
    go false e z = z

-- ---- a label

module _ (t : List ℕ) (some : 1 ≤ length t) where
  pair_at : follow_to t 0 (length t - 1) ≡ true → (i : ℕ) → i + 1 < length t → follows (get_or t i 0) (get_or t (i + 1) 0) ≡ true
  pair_at f i h = rw zero-add at (run_at t 0 (length t - 1) f i (omega arith))

  zeros_on : follow_to t 0 (length t - 1) ≡ true → (k : ℕ) → get_or t (text_length t + k) 0 ≡ 0
  zeros_on f zero = let e : text_length t + 0 ≡ text_length t = omega arith in rw e (text_zero t)
  zeros_on f (suc k) =
      let i = text_length t + k in
      let e : text_length t + suc k ≡ i + 1 = omega arith in
      let z : get_or t i 0 ≡ 0 = zeros_on f k in
      rw e
      (⊎_elim
      (λ (h : i + 1 < length t). ⊎_elim (λ q. q.0) (λ q. absurd (q.0 z)) (follows_means (get_or t i 0) (get_or t (i + 1) 0) (pair_at f i h)))
      (λ (h : length t ≤ i + 1). get_or-eq_default t 0 {n = i + 1} h)
      (lt_or_ge (i + 1) (length t)))

  in_range : follow_to t 0 (length t - 1) ≡ true → 33 ≤ get_or t 0 0 → get_or t 0 0 ≤ 126 → (i : ℕ) → i < text_length t → (32 ≤ get_or t i 0) × (get_or t i 0 ≤ 126)
  in_range f a b zero h = (omega arith, omega arith)
  in_range f a b (suc i) h =
      let e : i + 1 ≡ suc i = omega arith in
      let w = text_within t in
      let m = rw e at (follows_means (get_or t i 0) (get_or t (i + 1) 0) (pair_at f i (omega arith))) in
      ⊎_elim (λ q. absurd (text_nonzero t (suc i) h q.0)) (λ q. (q.1, q.2)) m

  told : follow_to t 0 (length t - 1) ≡ true → 33 ≤ get_or t 0 0 → get_or t 0 0 ≤ 126 → (get_or t (length t - 1) 0 ≡ 32 → ⊥) → Label t
  told f a b z =
      let n = text_length t in
      let w = text_within t in
      let one : 1 ≤ n = ⊎_elim (λ (h : n < 1). absurd (let k : n ≡ 0 = omega arith in let q : get_or t 0 0 ≡ 0 = rw k at (text_zero t) in omega arith)) (λ (h : 1 ≤ n). h) (lt_or_ge n 1) in
      record {
        size = n;
        some_text = one;
        within = w;
        range_from = λ i h. (in_range f a b i h).0;
        range_to = λ i h. (in_range f a b i h).1;
        first = λ e. omega arith;
        last = λ e.
            ⊎_elim
            (λ (h : n < length t).
            let k : n - 1 + 1 ≡ n = omega arith in
            let m = rw k at (follows_means (get_or t (n - 1) 0) (get_or t (n - 1 + 1) 0) (pair_at f (n - 1) (omega arith))) in
            ⊎_elim (λ q. q.1 e) (λ q. let y = text_zero t in let y32 : 32 ≤ get_or t n 0 = q.1 in omega arith) m)
            (λ (h : length t ≤ n). z (let k : n ≡ length t = omega arith in rw k at e))
            (lt_or_ge n (length t));
        zeros = λ i h. let k : n + (i - n) ≡ i = omega arith in rw k at (zeros_on f (i - n));
      }

  pairs : Label t → follow_to t 0 (length t - 1) ≡ true
  pairs r =
      all_run t 0 (length t - 1) (λ i h.
      let k : 0 + i ≡ i = omega arith in
      rw k
      (⊎_elim
      (λ (g : i + 1 < r.size). byte_follows (get_or t i 0) (get_or t (i + 1) 0) (λ (e : get_or t i 0 ≡ 0). let a = r.range_from i (omega arith) in omega arith) (r.range_from (i + 1) g) (r.range_to (i + 1) g))
      (λ (g : r.size ≤ i + 1).
      zero_follows (get_or t i 0) (get_or t (i + 1) 0) (r.zeros (i + 1) g) (λ (e : get_or t i 0 ≡ 32).
      ⊎_elim
      (λ (l : i < r.size). r.last (let m : i ≡ r.size - 1 = omega arith in rw m at e))
      (λ (l : r.size ≤ i). let z = r.zeros i l in omega arith)
      (lt_or_ge i r.size)))
      (lt_or_ge (i + 1) r.size)))

  end_no_space : Label t → get_or t (length t - 1) 0 ≡ 32 → ⊥
  end_no_space r e =
      let w = r.within in
      ⊎_elim
      (λ (h : r.size ≤ length t - 1). let z = r.zeros (length t - 1) h in omega arith)
      (λ (h : length t ≤ r.size). r.last (let m : length t - 1 ≡ r.size - 1 = omega arith in rw m at e))
      (⊎_elim (λ (h : r.size < length t). inl (omega arith)) (λ (h : length t ≤ r.size). inr h) (lt_or_ge r.size (length t)))

-- what `is_label` is asked at each way out, over plain values
module _ (t : List ℕ) where
  pub no_bytes : length t < 1 → false ≡ is_label t
  no_bytes h = sym (test_false (is_label t) (λ e. let r = label_means t e in let a = r.some_text in let w = r.within in omega arith))

  module _ (p : Bool) (some : 1 ≤ length t) (f : p ≡ follow_to t 0 (length t - 1)) where
    pub pair_fails : not p ≡ true → false ≡ is_label t
    pair_fails g = sym (test_false (is_label t) (λ e. not_both p (f ∙ pairs t some (label_means t e)) (not-true p g)))

    pub first_below : get_or t 0 0 < 33 → false ≡ is_label t
    first_below g =
        sym (test_false (is_label t) (λ e.
        let r = label_means t e in
        let a = r.range_from 0 r.some_text in
        r.first (omega arith)))

    pub first_above : 126 < get_or t 0 0 → false ≡ is_label t
    first_above g = sym (test_false (is_label t) (λ e. let r = label_means t e in let a = r.range_to 0 r.some_text in omega arith))

    pub end_tells : not p ≡ false → 33 ≤ get_or t 0 0 → get_or t 0 0 ≤ 126 → not (eqb (get_or t (length t - 1) 0) 32) ≡ is_label t
    end_tells g a b = go (eqb (get_or t (length t - 1) 0) 32) refl
      where
        go : (s : Bool) → eqb (get_or t (length t - 1) 0) 32 ≡ s → not (eqb (get_or t (length t - 1) 0) 32) ≡ is_label t
        go true k = rw k (sym (test_false (is_label t) (λ e. end_no_space t some (label_means t e) (eqb-true (get_or t (length t - 1) 0) 32 k))))
        go false k = rw k (sym (a_label t (told t some (sym f ∙ not-false p g) a b (eqb-false (get_or t (length t - 1) 0) 32 k))))
