-- Bytes that are all zero, judged four at a time.
-- Assumes nothing.
use Prim.Native.Nat.{ℕ, ◌+◌, ◌*◌, ◌≤◌}
use native.Mathlib.Omega.{arith}
use mathlib.Core.Path.{◌≡◌, refl, sym, ◌∙◌}
use mathlib.Core.Bool.{Bool, true, false, ◌&&◌}
use mathlib.Core.List.{List, ◌++◌}
use lib.Dec.{eqb}
use lib.ListN.{get_or, length}
use borrow.Author.Tests.{eqb-true, eqb-false, eq-eqb}
use Rattle.model.specs.Bytes.{word, long, blank, part}
use Rattle.byte_slice.proofs.Numbers.{test_false}
use Rattle.byte_slice.proofs.Parts.{part_none, part-cons, part_split, get_d_part}
use Rattle.byte_slice.proofs.Compare.{blank-append, blank_get_d}

module _ (s : List ℕ) (at : ℕ) where
  bytes_of : long s at ≡ get_or s at 0 + 256 * get_or s (at + 1) 0 + 65536 * (get_or s (at + 2) 0 + 256 * get_or s (at + 3) 0)
  unfolding long word
  bytes_of = let e : at + 2 + 1 ≡ at + 3 = omega arith in rw e

  all_zero : at + 4 ≤ length s → long s at ≡ 0 → blank (part s at 4) ≡ true
  unfolding blank
  all_zero h e =
      let b1 : at + 1 + 1 ≡ at + 2 = omega arith in
      let b2 : at + 2 + 1 ≡ at + 3 = omega arith in
      let b3 : at + 3 + 1 ≡ at + 4 = omega arith in
      rw (
        part-cons s at 3 (omega arith),
        part-cons s (at + 1) 2 (omega arith),
        b1,
        part-cons s (at + 2) 1 (omega arith),
        b2,
        part-cons s (at + 3) 0 (omega arith),
        b3,
        part_none s (at + 4),
        eq-eqb (get_or s at 0) 0 (omega (arith, bytes_of)),
        eq-eqb (get_or s (at + 1) 0) 0 (omega (arith, bytes_of)),
        eq-eqb (get_or s (at + 2) 0) 0 (omega (arith, bytes_of)),
        eq-eqb (get_or s (at + 3) 0) 0 (omega (arith, bytes_of)),
      )

  none_left : blank (part s at 4) ≡ true → long s at ≡ 0
  none_left e =
      let a : get_or s (at + 0) 0 ≡ 0 = sym (get_d_part s at 4 0 (omega arith)) ∙ blank_get_d (part s at 4) 0 e in
      let b : get_or s (at + 1) 0 ≡ 0 = sym (get_d_part s at 4 1 (omega arith)) ∙ blank_get_d (part s at 4) 1 e in
      let c : get_or s (at + 2) 0 ≡ 0 = sym (get_d_part s at 4 2 (omega arith)) ∙ blank_get_d (part s at 4) 2 e in
      let d : get_or s (at + 3) 0 ≡ 0 = sym (get_d_part s at 4 3 (omega arith)) ∙ blank_get_d (part s at 4) 3 e in
      let z : at + 0 ≡ at = omega arith in
      let a' : get_or s at 0 ≡ 0 = rw z at a in
      omega (arith, bytes_of)

  pub four_zero : {n : ℕ} → at + 4 ≤ length s → n ≡ long s at → eqb n 0 ≡ blank (part s at 4)
  four_zero {n} h f = go (eqb n 0) refl
    where
      go : (t : Bool) → eqb n 0 ≡ t → eqb n 0 ≡ blank (part s at 4)
      go true e = e ∙ sym (all_zero h (sym f ∙ eqb-true n 0 e))
      go false e = e ∙ sym (test_false (blank (part s at 4)) (λ b. eqb-false n 0 e (f ∙ none_left b)))

  pub sixteen_zero : {a b c d : Bool} → a ≡ blank (part s at 4) → b ≡ blank (part s (at + 4) 4) → c ≡ blank (part s (at + 8) 4) → d ≡ blank (part s (at + 12) 4)
      → (((a && b) && c) && d) ≡ blank (part s at 16)
  sixteen_zero a b c d =
      rw (
        a,
        b,
        c,
        d,
        part_split s at 12 4,
        part_split s at 8 4,
        part_split s at 4 4,
        blank-append ((part s at 4 ++ part s (at + 4) 4) ++ part s (at + 8) 4) (part s (at + 12) 4),
        blank-append (part s at 4 ++ part s (at + 4) 4) (part s (at + 8) 4),
        blank-append (part s at 4) (part s (at + 4) 4),
      )

pub two_sixteens : (s : List ℕ) (at : ℕ) → (blank (part s at 16) && blank (part s (at + 16) 16)) ≡ blank (part s at 32)
two_sixteens s at = rw (part_split s at 16 16, blank-append (part s at 16) (part s (at + 16) 16))
