-- What the code of each row test is asked at each way out, over plain values.
-- Assumes nothing.
use Prim.Native.Nat.{ℕ, ◌+◌, ◌-◌, ◌≤◌, ◌<◌}
use native.Mathlib.Omega.{arith}
use mathlib.Core.Path.{◌≡◌}
use mathlib.Core.Logic.{⊎_elim}
use mathlib.Core.Bool.{Bool, true, false, ◌&&◌, ◌||◌}
use mathlib.Core.List.{List}
use lib.Dec.{leb, eqb}
use lib.ListN.{get_or, length, take, drop}
use borrow.Author.Tests.{eq-eqb, ne_eqb, le-leb, lt-leb}
use Rattle.model.specs.Bytes.{word, blank, part}
use Rattle.model.specs.Date.{is_date}
use Rattle.model.specs.Record.{is_label}
use Rattle.byte_slice.proofs.Numbers.{eq_or_ne, and_right}
use Rattle.byte_slice.proofs.Parts.{part_is, part-cons, part_none}
use Rattle.base_model.specs.Base.{names_in, names_or_none, row_kind_fits, row_names_fit, row_date_fits, row_mark_fits, entry_fits, reason_fits, aside_fits}

-- ---- four bytes

word_zero : (s : List ℕ) (at n : ℕ) → n ≡ word s at → eqb n 0 ≡ (eqb (get_or s at 0) 0 && eqb (get_or s (at + 1) 0) 0)
unfolding word
word_zero s at n e =
    ⊎_elim
    (λ (a : get_or s at 0 ≡ 0).
    ⊎_elim
    (λ (b : get_or s (at + 1) 0 ≡ 0).
    rw (eq-eqb (get_or s at 0) 0 a, eq-eqb (get_or s (at + 1) 0) 0 b) (eq-eqb n 0 (omega (arith, e))))
    (λ (b : get_or s (at + 1) 0 ≡ 0 → ⊥).
    rw (eq-eqb (get_or s at 0) 0 a, ne_eqb (get_or s (at + 1) 0) 0 b) (ne_eqb n 0 (λ z. b (omega (arith, e)))))
    (eq_or_ne (get_or s (at + 1) 0) 0))
    (λ (a : get_or s at 0 ≡ 0 → ⊥). rw (ne_eqb (get_or s at 0) 0 a) (ne_eqb n 0 (λ z. a (omega (arith, e)))))
    (eq_or_ne (get_or s at 0) 0)

four-blank : (s : List ℕ) (at : ℕ) {n : ℕ} → at + 4 ≤ length s → n ≡ word s (at + 2)
    → (eqb (get_or s at 0) 0 && (eqb (get_or s (at + 1) 0) 0 && eqb n 0)) ≡ blank (part s at 4)
unfolding blank
four-blank s at {n} h e =
    let b1 : at + 1 + 1 ≡ at + 2 = omega arith in
    let b2 : at + 2 + 1 ≡ at + 3 = omega arith in
    rw (
      part-cons s at 3 (omega arith),
      part-cons s (at + 1) 2 (omega arith),
      b1,
      part-cons s (at + 2) 1 (omega arith),
      b2,
      part-cons s (at + 3) 0 (omega arith),
      part_none s (at + 3 + 1),
      and_right (eqb (get_or s (at + 3) 0) 0),
      word_zero s (at + 2) n e,
      b2,
    )

-- ---- a named identity

module _ (v s : List ℕ) (at : ℕ) where
  pub unit_above : 7 < get_or s at 0 → false ≡ names_in v s at
  unfolding names_in
  unit_above a = rw (lt-leb (get_or s at 0) 7 a)

  pub byte_used : get_or s at 0 ≤ 7 → (get_or s (at + 1) 0 ≡ 0 → ⊥) → false ≡ names_in v s at
  unfolding names_in
  byte_used a b = rw (le-leb (get_or s at 0) 7 a, ne_eqb (get_or s (at + 1) 0) 0 b)

  module _ {n : ℕ} (a : get_or s at 0 ≤ 7) (b : get_or s (at + 1) 0 ≡ 0) (e : n ≡ word s (at + 2)) where
    pub number_none : n < 1 → false ≡ names_in v s at
    unfolding names_in
    number_none h = rw (le-leb (get_or s at 0) 7 a, eq-eqb (get_or s (at + 1) 0) 0 b, ← e, lt-leb 1 n h)

    pub number_held : 1 ≤ n → leb n (get_or v (get_or s at 0) 0) ≡ names_in v s at
    unfolding names_in
    number_held h = rw (le-leb (get_or s at 0) 7 a, eq-eqb (get_or s (at + 1) 0) 0 b, ← e, le-leb 1 n h)

  module _ {n : ℕ} (h : at + 4 ≤ length s) (e : n ≡ word s (at + 2)) where
    pub none_named : (eqb (get_or s at 0) 0 && (eqb (get_or s (at + 1) 0) 0 && eqb n 0)) ≡ true → true ≡ names_or_none v s at
    unfolding names_or_none
    none_named z = rw (← four-blank s at h e, z)

    pub one_named : {t : Bool} → (eqb (get_or s at 0) 0 && (eqb (get_or s (at + 1) 0) 0 && eqb n 0)) ≡ false → t ≡ names_in v s at → t ≡ names_or_none v s at
    unfolding names_or_none
    one_named z f = rw (← four-blank s at h e, z) f

  pub names_are : {a b c d : Bool} → a ≡ names_in v s (at + 4) → b ≡ names_or_none v s (at + 8) → c ≡ names_in v s (at + 12) → d ≡ names_in v s (at + 16)
      → (a && (b && (c && d))) ≡ row_names_fit v s at
  unfolding row_names_fit
  names_are e f g h = rw (e, f, g, h)

  pub entry_is : {a b c d e : Bool} → d ≡ is_label (take (at + 24 + 32 - (at + 24)) (drop (at + 24) s)) → a ≡ row_kind_fits s at → b ≡ row_names_fit v s at → c ≡ row_date_fits s at → e ≡ row_mark_fits s at
      → (a && (b && (c && (d && e)))) ≡ entry_fits v s at
  unfolding entry_fits
  entry_is d a b c e = rw (a, b, c, e, d, part_is s (at + 24) 32)

  pub aside_is : {a b c : Bool} → a ≡ names_in v s at → b ≡ reason_fits s at → c ≡ names_or_none v s (at + 8) → (a && (b && c)) ≡ aside_fits v s at
  unfolding aside_fits
  aside_is a b c = rw (a, b, c)

module _ (s : List ℕ) (at : ℕ) where
  pub kind_is : {n : ℕ} → n ≡ word s (at + 2) → ((eqb (get_or s at 0) 1 || eqb (get_or s at 0) 2) && (eqb (get_or s (at + 1) 0) 0 && eqb n 0)) ≡ row_kind_fits s at
  unfolding row_kind_fits
  kind_is e = rw e

  pub date_is : {y : ℕ} {t : Bool} → y ≡ word s (at + 20) → t ≡ is_date y (get_or s (at + 22) 0) (get_or s (at + 23) 0) → t ≡ row_date_fits s at
  unfolding row_date_fits
  date_is e f = rw (f, e)

  pub mark_any : get_or s at 0 ≡ 2 → true ≡ row_mark_fits s at
  unfolding row_mark_fits
  mark_any e = rw (eq-eqb (get_or s at 0) 2 e)

  pub mark_zero : {t : Bool} → (get_or s at 0 ≡ 2 → ⊥) → t ≡ blank (take (at + 56 + 16 - (at + 56)) (drop (at + 56) s)) → t ≡ row_mark_fits s at
  unfolding row_mark_fits
  mark_zero e f = rw (ne_eqb (get_or s at 0) 2 e, f, part_is s (at + 56) 16)

  pub reason_is : {n : ℕ} → n ≡ word s (at + 6)
      → (((leb 12 (get_or s (at + 4) 0) && leb (get_or s (at + 4) 0) 18) || eqb (get_or s (at + 4) 0) 25) && ((eqb (get_or s (at + 5) 0) 1 || eqb (get_or s (at + 5) 0) 2) && eqb n 0)) ≡ reason_fits s at
  unfolding reason_fits
  reason_is e = rw e
