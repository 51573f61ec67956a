-- Equality of byte lists, and lists of zeros, by test.
-- Assumes nothing.
use Prim.Native.Nat.{ℕ, zero, suc, ◌+◌, ◌-◌, ◌≤◌, ◌<◌}
use native.Mathlib.Omega.{arith}
use mathlib.Core.Path.{◌≡◌, refl, sym, ap, ◌∙◌}
use mathlib.Core.Bool.{Bool, true, false, ◌&&◌, not, false≢true}
use mathlib.Core.List.{List, [], ◌∷◌, ◌++◌}
use lib.Dec.{eqb}
use lib.ListN.{get_or, length, take, drop, replicate, take-append-drop, length-drop}
use lib.Seq.{take_all, drop-drop}
use borrow.Author.Tests.{eqb-true, eq-eqb, not-true, not-false}
use Rattle.model.specs.Bytes.{same_bytes, blank, part}
use Rattle.byte_slice.proofs.Parts.{part_snoc}
use Rattle.byte_slice.proofs.Numbers.{and_true, true_and, and_right, test_false, not_both}

-- ---- the same bytes

pub same_eq : (a b : List ℕ) → same_bytes a b ≡ true → a ≡ b
unfolding same_bytes
same_eq [] [] e = refl
same_eq [] (y ∷ b) e = absurd (false≢true e)
same_eq (x ∷ a) [] e = absurd (false≢true e)
same_eq (x ∷ a) (y ∷ b) e =
    let (p, q) = and_true (eqb x y) (same_bytes a b) e in
    λ i. eqb-true x y p i ∷ same_eq a b q i

pub same_refl : (a : List ℕ) → same_bytes a a ≡ true
unfolding same_bytes
same_refl [] = refl
same_refl (x ∷ a) = true_and (eqb x x) (same_bytes a a) (eq-eqb x x refl) (same_refl a)

pub eq_same : (a b : List ℕ) → a ≡ b → same_bytes a b ≡ true
eq_same a b e = rw e (same_refl b)

pub same_ne : (a b : List ℕ) → same_bytes a b ≡ false → a ≡ b → ⊥
same_ne a b f e = not_both (same_bytes a b) (eq_same a b e) f

pub ne_same : (a b : List ℕ) → (a ≡ b → ⊥) → same_bytes a b ≡ false
ne_same a b h = test_false (same_bytes a b) (λ e. h (same_eq a b e))

-- fronts of one length are compared by themselves
pub same_append : (a b c d : List ℕ) → length a ≡ length b → same_bytes (a ++ c) (b ++ d) ≡ (same_bytes a b && same_bytes c d)
unfolding same_bytes
same_append [] [] c d n = refl
same_append [] (y ∷ b) c d n = absurd (omega arith)
same_append (x ∷ a) [] c d n = absurd (omega arith)
same_append (x ∷ a) (y ∷ b) c d n = go (eqb x y) (same_append a b c d (omega arith))
  where
    go : (t : Bool) → same_bytes (a ++ c) (b ++ d) ≡ (same_bytes a b && same_bytes c d) → (t && same_bytes (a ++ c) (b ++ d)) ≡ ((t && same_bytes a b) && same_bytes c d)
    go true e = e
    go false e = refl

-- lists of different lengths
pub same_lengths : (a b : List ℕ) → (length a ≡ length b → ⊥) → false ≡ same_bytes a b
same_lengths a b h = sym (ne_same a b (λ e. h (ap (λ (l : List ℕ). length l) e)))

-- ---- all zeros

pub blank-zeros : (n : ℕ) → blank (replicate n 0) ≡ true
unfolding blank
blank-zeros zero = refl
blank-zeros (suc n) = blank-zeros n

pub blank-eq : (b : List ℕ) → blank b ≡ true → b ≡ replicate (length b) 0
unfolding blank
blank-eq [] e = refl
blank-eq (x ∷ b) e =
    let (p, q) = and_true (eqb x 0) (blank b) e in
    λ i. eqb-true x 0 p i ∷ blank-eq b q i

pub eq-blank : (b : List ℕ) (n : ℕ) → b ≡ replicate n 0 → blank b ≡ true
eq-blank b n e = rw e (blank-zeros n)

pub blank-append : (a b : List ℕ) → blank (a ++ b) ≡ (blank a && blank b)
unfolding blank
blank-append [] b = refl
blank-append (x ∷ a) b = go (eqb x 0) (blank-append a b)
  where
    go : (t : Bool) → blank (a ++ b) ≡ (blank a && blank b) → (t && blank (a ++ b)) ≡ ((t && blank a) && blank b)
    go true e = e
    go false e = refl

pub append-blank : (a b : List ℕ) → blank a ≡ true → blank b ≡ true → blank (a ++ b) ≡ true
append-blank a b p q = rw (blank-append a b, p, q)

pub blank-take : (n : ℕ) (b : List ℕ) → blank b ≡ true → blank (take n b) ≡ true
blank-take n b e =
    let f : (blank (take n b) && blank (drop n b)) ≡ true = sym (blank-append (take n b) (drop n b)) ∙ rw (take-append-drop n b) e in
    (and_true (blank (take n b)) (blank (drop n b)) f).0

pub blank-drop : (n : ℕ) (b : List ℕ) → blank b ≡ true → blank (drop n b) ≡ true
blank-drop n b e =
    let f : (blank (take n b) && blank (drop n b)) ≡ true = sym (blank-append (take n b) (drop n b)) ∙ rw (take-append-drop n b) e in
    (and_true (blank (take n b)) (blank (drop n b)) f).1

pub blank_part : (b : List ℕ) (at n : ℕ) → blank b ≡ true → blank (part b at n) ≡ true
unfolding part
blank_part b at n e = blank-take n (drop at b) (blank-drop at b e)

pub zeros-blank : (b : List ℕ) → ((i : ℕ) → get_or b i 0 ≡ 0) → blank b ≡ true
unfolding blank
zeros-blank [] f = refl
zeros-blank (x ∷ b) f = rw (eq-eqb x 0 (f 0)) (zeros-blank b (λ i. f (suc i)))

pub blank_get_d : (b : List ℕ) (i : ℕ) → blank b ≡ true → get_or b i 0 ≡ 0
unfolding blank
blank_get_d [] i e = refl
blank_get_d (x ∷ b) zero e = eqb-true x 0 (and_true (eqb x 0) (blank b) e).0
blank_get_d (x ∷ b) (suc i) e = blank_get_d b i (and_true (eqb x 0) (blank b) e).1

pub not_blank : (b : List ℕ) (i : ℕ) → (get_or b i 0 ≡ 0 → ⊥) → blank b ≡ false
not_blank b i h = test_false (blank b) (λ e. h (blank_get_d b i e))

-- what the loop of `blank_run` is asked, over plain values
module _ (s : List ℕ) (at i : ℕ) {t : Bool} (inv : t ≡ blank (part s at i)) where
  pub run-next : (n : ℕ) → i < n → at + n ≤ length s → (t && eqb (get_or s (at + i) 0) 0) ≡ blank (part s at (i + 1))
  unfolding blank
  run-next n h g =
      rw (part_snoc s at i (omega arith), blank-append (part s at i) (get_or s (at + i) 0 ∷ []), and_right (eqb (get_or s (at + i) 0) 0), inv)

  pub run_end : (n : ℕ) → i ≤ n → n ≤ i → t ≡ blank (part s at n)
  run_end n h g = let e : i ≡ n = omega arith in (rw e at inv)

-- what the loop of `is_blank` is asked, over plain values
module _ (s : List ℕ) (at : ℕ) (t : Bool) where
  pub blank-next : t ≡ blank (part s at 64) → not t ≡ false → blank (drop at s) ≡ blank s → blank (drop (at + 64) s) ≡ blank s
  unfolding part
  blank-next e g inv =
      let p : blank (take 64 (drop at s)) ≡ true = sym e ∙ not-false t g in
      let q : (blank (take 64 (drop at s)) && blank (drop 64 (drop at s))) ≡ blank s =
      sym (blank-append (take 64 (drop at s)) (drop 64 (drop at s))) ∙ rw (take-append-drop 64 (drop at s)) inv in
      rw (p, drop-drop 64 at s) at q

  pub blank-differs : t ≡ blank (part s at 64) → not t ≡ true → false ≡ blank s
  blank-differs e g = sym (test_false (blank s) (λ b. not_both t (e ∙ blank_part s at 64 b) (not-true t g)))

  pub blank_end : t ≡ blank (part s at (length s - at)) → blank (drop at s) ≡ blank s → t ≡ blank s
  unfolding part
  blank_end e inv =
      let n : length (drop at s) ≤ length s - at = omega (arith, length-drop at s) in
      e ∙ (rw (take_all (length s - at) (drop at s) n) inv)
