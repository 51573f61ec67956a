-- More numbers than places: two share a place.
-- Assumes nothing.
use Prim.Native.Nat.{ℕ, zero, suc, ◌≤◌, ◌<◌}
use native.Mathlib.Omega.{arith}
use mathlib.Core.Path.{◌≡◌, sym, ◌∙◌}
use mathlib.Core.Logic.{⊎_elim}
use mathlib.Core.Bool.{cond}
use lib.Dec.{eqb}
use borrow.Author.Tests.{eq-eqb, ne_eqb}
use Rattle.byte_slice.proofs.Numbers.{eq_or_ne}

unfoldable moved : (ℕ → ℕ) → ℕ → ℕ → ℕ → ℕ
moved f n v d = cond (eqb (f d) n) v (f d)

moved_there : (f : ℕ → ℕ) (n v d : ℕ) → f d ≡ n → moved f n v d ≡ v
unfolding moved
moved_there f n v d e = rw (eq-eqb (f d) n e)

moved_not : (f : ℕ → ℕ) (n v d : ℕ) → (f d ≡ n → ⊥) → moved f n v d ≡ f d
unfolding moved
moved_not f n v d e = rw (ne_eqb (f d) n e)

pub pigeons : (n k : ℕ) (f : ℕ → ℕ) → ((d : ℕ) → d < k → f d < n) → ((d e : ℕ) → d < e → e < k → f d ≡ f e → ⊥) → k ≤ n
pigeons zero zero f low apart = omega arith
pigeons zero (suc k) f low apart = absurd (omega (arith, low 0 (omega arith)))
pigeons (suc n) zero f low apart = omega arith
pigeons (suc n) (suc k) f low apart =
    let v = f k in
    let g = moved f n v in
    let small : (d : ℕ) → d < k → g d < n =
    λ d h.
    ⊎_elim
    (λ (e : f d ≡ n). omega (arith, moved_there f n v d e, low k (omega arith), e, apart d k h (omega arith)))
    (λ (e : f d ≡ n → ⊥). omega (arith, moved_not f n v d e, low d (omega arith)))
    (eq_or_ne (f d) n) in
    let differ : (d e : ℕ) → d < e → e < k → g d ≡ g e → ⊥ =
    λ d e h l q.
    ⊎_elim
    (λ (x : f d ≡ n).
    ⊎_elim
    (λ (y : f e ≡ n). apart d e h (omega arith) (x ∙ sym y))
    (λ (y : f e ≡ n → ⊥). apart e k l (omega arith) (sym (moved_not f n v e y) ∙ (sym q ∙ moved_there f n v d x)))
    (eq_or_ne (f e) n))
    (λ (x : f d ≡ n → ⊥).
    ⊎_elim
    (λ (y : f e ≡ n). apart d k (omega arith) (omega arith) (sym (moved_not f n v d x) ∙ (q ∙ moved_there f n v e y)))
    (λ (y : f e ≡ n → ⊥). apart d e h (omega arith) (sym (moved_not f n v d x) ∙ (q ∙ moved_not f n v e y)))
    (eq_or_ne (f e) n))
    (eq_or_ne (f d) n) in
    let less : k ≤ n = pigeons n k g small differ in
    omega arith
