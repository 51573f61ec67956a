-- What the code of each field is asked at each way out, over plain values.
-- Assumes nothing.
use Prim.Native.Nat.{ℕ, ◌+◌, ◌-◌, ◌*◌, ◌≤◌, ◌<◌}
use mathlib.Core.Path.{◌≡◌, refl, sym, ◌∙◌}
use mathlib.Core.Bool.{Bool, true, false, cond, ◌&&◌}
use lib.Dec.{leb, eqb}
use lib.ListN.{get_or, take, drop}
use borrow.Author.Tests.{eq-eqb, ne_eqb, le-leb, lt-leb}
use Rattle.model.specs.Bytes.{word, blank, part}
use Rattle.model.specs.Date.{is_date}
use Rattle.model.specs.Record.{Rec, unit, op, num, seen, label_of, is_label, uses_object, uses_folder, uses_label, uses_mark, unused, names, head_fits, object_fits, folder_fits, date_fits, label_fits, mark_fits}
use Rattle.byte_slice.proofs.Numbers.{and_true}
use Rattle.record_fields.proofs.Blanks.{two_sixteens, four_zero, sixteen_zero}

-- ---- a named identity

module _ (r : Rec) (at : ℕ) where
  pub unit_above : 7 < get_or r at 0 → leb (get_or r at 0) 7 ≡ names r at
  unfolding names
  unit_above a = rw (lt-leb (get_or r at 0) 7 a)

  pub byte_used : get_or r at 0 ≤ 7 → (get_or r (at + 1) 0 ≡ 0 → ⊥) → eqb (get_or r (at + 1) 0) 0 ≡ names r at
  unfolding names
  byte_used a b = rw (le-leb (get_or r at 0) 7 a, ne_eqb (get_or r (at + 1) 0) 0 b)

  module _ {n : ℕ} (a : get_or r at 0 ≤ 7) (b : get_or r (at + 1) 0 ≡ 0) (e : n ≡ word r (at + 2)) where
    pub number_none : n < 1 → leb 1 n ≡ names r at
    unfolding names
    number_none h = rw (le-leb (get_or r at 0) 7 a, eq-eqb (get_or r (at + 1) 0) 0 b, ← e, lt-leb 1 n h)

    pub number_seen : {s u : ℕ} → 1 ≤ n → u ≡ get_or r at 0 → s ≡ word r (4 + 2 * u) → leb n s ≡ names r at
    unfolding names seen
    number_seen h same k = let f = rw same at k in rw (le-leb (get_or r at 0) 7 a, eq-eqb (get_or r (at + 1) 0) 0 b, ← e, le-leb 1 n h, ← f)

-- ---- unit, operation and number

module _ (r : Rec) where
  pub head_unit_lem : 7 < get_or r 0 0 → leb (get_or r 0 0) 7 ≡ head_fits r
  unfolding head_fits unit
  head_unit_lem a = rw (lt-leb (get_or r 0 0) 7 a)

  module _ (a : get_or r 0 0 ≤ 7) {o : Bool} (f : o ≡ (leb 1 (get_or r 1 0) && leb (get_or r 1 0) 7)) where
    pub head_no_op : o ≡ false → o ≡ head_fits r
    unfolding head_fits unit op
    head_no_op h = rw (le-leb (get_or r 0 0) 7 a, h) (go (leb 1 (get_or r 1 0)) (leb (get_or r 1 0) 7) _ (sym f ∙ h))
      where
        go : (p q t : Bool) → (p && q) ≡ false → false ≡ (p && (q && t))
        go true true t e = cc
        go true false t e = refl
        go false q t e = refl

    module _ (k : o ≡ true) {n : ℕ} (e : n ≡ word r 2) where
      op_known : (leb 1 (get_or r 1 0) ≡ true) × (leb (get_or r 1 0) 7 ≡ true)
      op_known = and_true (leb 1 (get_or r 1 0)) (leb (get_or r 1 0) 7) (sym f ∙ k)

      pub head_number : n < 1 → leb 1 n ≡ head_fits r
      unfolding head_fits unit op num
      head_number h = let (p, q) = op_known in rw (le-leb (get_or r 0 0) 7 a, p, q, ← e, lt-leb 1 n h)

      pub head_seen : {s u : ℕ} → 1 ≤ n → u ≡ get_or r 0 0 → s ≡ word r (4 + 2 * u) → eqb s (n - 1) ≡ head_fits r
      unfolding head_fits unit op num seen
      head_seen h same z = let (p, q) = op_known in let g = rw same at z in rw (le-leb (get_or r 0 0) 7 a, p, q, ← e, le-leb 1 n h, ← g)

-- ---- the fields; u is the test whether the operation uses the field, b what the field's own test says

module _ (r : Rec) {u : Bool} where
  pub object_used : {b : Bool} → u ≡ uses_object (get_or r 1 0) → u ≡ true → b ≡ names r 20 → b ≡ object_fits r
  unfolding object_fits op
  object_used e h f = rw (← e, h, f)

  pub object_unused : {b : Bool} → u ≡ uses_object (get_or r 1 0) → u ≡ false → b ≡ blank (part r 20 4) → b ≡ object_fits r
  unfolding object_fits op unused
  object_unused e h f = rw (← e, h, f)

  pub label_used : {b : Bool} → u ≡ uses_label (get_or r 1 0) → u ≡ true → b ≡ is_label (take 32 (drop 32 r)) → b ≡ label_fits r
  unfolding label_fits op label_of part
  label_used e h f = rw (← e, h, f)

  pub label_unused : {a b : Bool} → u ≡ uses_label (get_or r 1 0) → u ≡ false → a ≡ blank (part r 32 16) → b ≡ blank (part r 48 16) → (a && b) ≡ label_fits r
  unfolding label_fits op unused
  label_unused e h f g = rw (← e, h, f, g) (two_sixteens r 32)

  pub mark_used : u ≡ uses_mark (get_or r 1 0) → u ≡ true → u ≡ mark_fits r
  unfolding mark_fits op
  mark_used e h = rw (← e, h)

  pub mark_unused : {b : Bool} → u ≡ uses_mark (get_or r 1 0) → u ≡ false → b ≡ blank (part r 64 16) → b ≡ mark_fits r
  unfolding mark_fits op unused
  mark_unused e h f = rw (← e, h, f)

pub date_used : (r : Rec) {b : Bool} {y : ℕ} → y ≡ word r 28 → b ≡ is_date y (get_or r 30 0) (get_or r 31 0) → b ≡ date_fits r
unfolding date_fits
date_used r e f = rw (f, e)

module _ (r : Rec) {z : Bool} (e : z ≡ blank (part r 24 4)) where
  pub folder_zero : z ≡ true → z ≡ folder_fits r
  unfolding folder_fits unused
  folder_zero h = rw (← e, h) (sym (go (uses_folder (op r))))
    where
      go : (t : Bool) → cond t true true ≡ true
      go true = refl
      go false = refl

  module _ {u : Bool} (h : z ≡ false) (f : u ≡ uses_folder (get_or r 1 0)) where
    pub folder_unused : u ≡ false → u ≡ folder_fits r
    unfolding folder_fits op unused
    folder_unused g = rw (← f, g, ← e, h)

    pub folder_used : {b : Bool} → u ≡ true → b ≡ names r 24 → b ≡ folder_fits r
    unfolding folder_fits op unused
    folder_used g k = rw (← f, g, ← e, h, k)

-- what the goals of this crate ask for
pub ruleset ways = (unit_above, byte_used, number_none, number_seen, head_unit_lem, head_no_op, head_number, head_seen, object_used, object_unused, label_used, label_unused, mark_used, mark_unused, date_used, folder_zero, folder_unused, folder_used, four_zero, sixteen_zero)
