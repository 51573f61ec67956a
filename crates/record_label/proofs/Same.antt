-- Labels that are the same in capitals or small letters.
-- Assumes nothing.
use Prim.Native.Nat.{ℕ, ◌+◌, ◌≤◌, ◌<◌}
use native.Mathlib.Numerals.{add-one}
use native.Mathlib.Omega.{arith}
use mathlib.Core.Path.{◌≡◌, refl, sym, ◌∙◌}
use mathlib.Core.Bool.{Bool, true, false, ◌&&◌}
use mathlib.Core.List.{List, [], ◌∷◌, ◌++◌}
use lib.Dec.{leb, eqb}
use lib.ListN.{get_or, length, take}
use lib.Seq.{take_all, take-suc, length-take-le}
use borrow.Author.Tests.{leb-true}
use Rattle.model.specs.Bytes.{same_bytes}
use Rattle.model.specs.Replay.{lower, label_key, same_label}
use Rattle.byte_slice.proofs.Numbers.{and_true, and_right}
use Rattle.byte_slice.proofs.Compare.{same_eq, eq_same, same_append}

-- ---- a byte

module _ (x : ℕ) where
  pub lower_capital : (leb 65 x && leb x 90) ≡ true → x + 32 ≡ lower x
  unfolding lower
  lower_capital h = rw h

  pub capital_fits : (leb 65 x && leb x 90) ≡ true → x + 32 < 256
  capital_fits h = let (_, q) = and_true (leb 65 x) (leb x 90) h in omega (arith, leb-true x 90 q)

  pub lower_other : (leb 65 x && leb x 90) ≡ false → x ≡ lower x
  unfolding lower
  lower_other h = rw h

-- ---- a label

pub key_append : (a b : List ℕ) → label_key (a ++ b) ≡ label_key a ++ label_key b
unfolding label_key
key_append [] b = refl
key_append (x ∷ a) b = rw (key_append a b)

pub key_length : (a : List ℕ) → length (label_key a) ≡ length a
unfolding label_key
key_length [] = refl
key_length (x ∷ a) = rw (key_length a)

-- same labels have one key, and labels of one key are the same
pub same_key : (a b : List ℕ) → same_label a b ≡ true → label_key a ≡ label_key b
unfolding same_label
same_key a b e = same_eq (label_key a) (label_key b) e

pub key_same : (a b : List ℕ) → label_key a ≡ label_key b → same_label a b ≡ true
unfolding same_label
key_same a b e = eq_same (label_key a) (label_key b) e

-- what the loop of `same_label` is asked, over plain values
pub label_starts : true ≡ same_label [] []
unfolding same_label label_key same_bytes
label_starts = refl

module _ (a b : List ℕ) (i : ℕ) {t : Bool} (inv : t ≡ same_label (take i a) (take i b)) (m : length a ≡ 32) (n : length b ≡ 32) where
  pub label_next : i < 32 → (x y : ℕ) → x ≡ lower (get_or a i 0) → y ≡ lower (get_or b i 0) → (t && eqb x y) ≡ same_label (take (i + 1) a) (take (i + 1) b)
  unfolding same_label label_key same_bytes
  label_next h x y p q =
      let u = take i a in
      let v = take i b in
      let e : length (label_key u) ≡ length (label_key v) = key_length u ∙ length-take-le i a (omega arith) ∙ sym (key_length v ∙ length-take-le i b (omega arith)) in
      rw (
        add-one,
        take-suc a i 0 (omega arith),
        take-suc b i 0 (omega arith),
        key_append u (get_or a i 0 ∷ []),
        key_append v (get_or b i 0 ∷ []),
        same_append (label_key u) (label_key v) (lower (get_or a i 0) ∷ []) (lower (get_or b i 0) ∷ []) e,
        and_right (eqb (lower (get_or a i 0)) (lower (get_or b i 0))),
        inv,
        p,
        q,
      )

  pub label_end : i ≤ 32 → 32 ≤ i → t ≡ same_label a b
  label_end h g = let e : i ≡ 32 = omega arith in rw (e, take_all 32 a (omega arith), take_all 32 b (omega arith)) at inv
