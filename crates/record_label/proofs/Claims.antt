-- Claim R3: the test of labels says exactly what it should.
-- Assumes nothing.
use Prim.Native.Nat.{ℕ, zero, suc, ◌+◌, ◌-◌, ◌≤◌, ◌<◌}
use native.Mathlib.Omega.{arith}
use mathlib.Core.Path.{◌≡◌, refl, sym, ◌∙◌}
use mathlib.Core.Logic.{◌↔◌}
use mathlib.Core.Bool.{Bool, true, false, cond, not, ◌&&◌}
use mathlib.Core.List.{List, [], ◌∷◌}
use lib.Dec.{leb, eqb}
use lib.ListN.{get_or, length, take, drop}
use lib.Seq.{get_or-take, get_or-drop, length-take-le}
use borrow.Author.Tests.{leb-true, eqb-false, le-leb, eq-eqb, ne_eqb, not-true}
use Rattle.model.specs.Bytes.{blank}
use Rattle.model.specs.Record.{text_length, printable, is_label}
use Rattle.byte_slice.proofs.Numbers.{and_true}
use Rattle.byte_slice.proofs.Compare.{blank_get_d, zeros-blank}
use Rattle.record_label.specs.Label.{Label}

-- ---- labels

pub text_within : (t : List ℕ) → text_length t ≤ length t
unfolding text_length
text_within [] = omega arith
text_within (x ∷ t) = go (eqb x 0) (text_within t)
  where
    go : (b : Bool) → text_length t ≤ length t → cond b 0 (suc (text_length t)) ≤ suc (length t)
    go true h = omega arith
    go false h = omega arith

-- a text of n bytes other than zero, with a zero or nothing behind it
text_is : (t : List ℕ) (n : ℕ) → n ≤ length t → ((i : ℕ) → i < n → 32 ≤ get_or t i 0) → get_or t n 0 ≡ 0 → text_length t ≡ n
unfolding text_length
text_is [] n h f z = omega arith
text_is (x ∷ t) zero h f z = rw (eq-eqb x 0 z)
text_is (x ∷ t) (suc n) h f z =
    let p : x ≡ 0 → ⊥ = λ e. let a : 32 ≤ x = f 0 (omega arith) in omega arith in
    let q : text_length t ≡ n = text_is t n (omega arith) (λ i k. f (suc i) (omega arith)) z in
    rw (ne_eqb x 0 p, q)

printable-at : (t : List ℕ) → printable t ≡ true → (i : ℕ) → i < length t → (32 ≤ get_or t i 0) × (get_or t i 0 ≤ 126)
unfolding printable
printable-at [] e i h = absurd (omega arith)
printable-at (x ∷ t) e zero h =
    let (p, q) = and_true (leb 32 x) (leb x 126 && printable t) e in
    (leb-true 32 x p, leb-true x 126 (and_true (leb x 126) (printable t) q).0)
printable-at (x ∷ t) e (suc i) h =
    let (p, q) = and_true (leb 32 x) (leb x 126 && printable t) e in
    printable-at t (and_true (leb x 126) (printable t) q).1 i (omega arith)

all_printable : (t : List ℕ) → ((i : ℕ) → i < length t → 32 ≤ get_or t i 0) → ((i : ℕ) → i < length t → get_or t i 0 ≤ 126) → printable t ≡ true
unfolding printable
all_printable [] f g = refl
all_printable (x ∷ t) f g =
    rw (le-leb 32 x (f 0 (omega arith)), le-leb x 126 (g 0 (omega arith))) (all_printable t (λ i k. f (suc i) (omega arith)) (λ i k. g (suc i) (omega arith)))

module _ (t : List ℕ) where
  pub label_means : is_label t ≡ true → Label t
  unfolding is_label
  label_means e =
      let n = text_length t in
      let w = text_within t in
      let l = length-take-le n t w in
      let (a, p) = and_true (leb 1 n) (printable (take n t) && (not (eqb (get_or t 0 0) 32) && (not (eqb (get_or t (n - 1) 0) 32) && blank (drop n t)))) e in
      let (b, q) = and_true (printable (take n t)) (not (eqb (get_or t 0 0) 32) && (not (eqb (get_or t (n - 1) 0) 32) && blank (drop n t))) p in
      let (c, r) = and_true (not (eqb (get_or t 0 0) 32)) (not (eqb (get_or t (n - 1) 0) 32) && blank (drop n t)) q in
      let (d, z) = and_true (not (eqb (get_or t (n - 1) 0) 32)) (blank (drop n t)) r in
      record {
        size = n;
        some_text = leb-true 1 n a;
        within = w;
        range_from = λ i h. rw (get_or-take n t i 0 h) at (printable-at (take n t) b i (omega arith)).0;
        range_to = λ i h. rw (get_or-take n t i 0 h) at (printable-at (take n t) b i (omega arith)).1;
        first = eqb-false (get_or t 0 0) 32 (not-true (eqb (get_or t 0 0) 32) c);
        last = eqb-false (get_or t (n - 1) 0) 32 (not-true (eqb (get_or t (n - 1) 0) 32) d);
        zeros = λ i h. let m : n + (i - n) ≡ i = omega arith in rw m at (sym (get_or-drop n t (i - n) 0) ∙ blank_get_d (drop n t) (i - n) z);
      }

  pub a_label : Label t → is_label t ≡ true
  unfolding is_label
  a_label r =
      let n = r.size in
      let l = length-take-le n t r.within in
      let m : text_length t ≡ n = text_is t n r.within r.range_from (r.zeros n (omega arith)) in
      let p : printable (take n t) ≡ true = all_printable (take n t) (λ i h. rw (get_or-take n t i 0 (omega arith)) (r.range_from i (omega arith))) (λ i h. rw (get_or-take n t i 0 (omega arith)) (r.range_to i (omega arith))) in
      let z : blank (drop n t) ≡ true = zeros-blank (drop n t) (λ i. get_or-drop n t i 0 ∙ r.zeros (n + i) (omega arith)) in
      rw (m, le-leb 1 n r.some_text, p, ne_eqb (get_or t 0 0) 32 r.first, ne_eqb (get_or t (n - 1) 0) 32 r.last, z)

  -- R3
  pub label_exact : is_label t ≡ true ↔ Label t
  label_exact = (label_means, a_label)
