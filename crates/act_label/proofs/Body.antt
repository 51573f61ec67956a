-- What `body_fits` is asked at each way out; what it does not read; and with it a record is well formed exactly if its label fits.
-- Assumes nothing.
use Prim.Native.Nat.{ℕ, ◌+◌, ◌-◌, ◌*◌, ◌≤◌}
use native.Mathlib.Omega.{arith}
use mathlib.Core.Path.{◌≡◌, refl, sym, ap, ◌∙◌}
use mathlib.Core.Bool.{Bool, true, false, not, ◌&&◌}
use mathlib.Core.List.{List}
use lib.Dec.{leb}
use lib.ListN.{get_or, length, drop}
use lib.Seq.{get_or-drop}
use borrow.Author.Tests.{eq-eqb, le-leb, not-true, not-false}
use Rattle.model.specs.Bytes.{word, part}
use Rattle.model.specs.Record.{Rec, unit, op, num, seen, label_of, unused, names, head_fits, object_fits, folder_fits, date_fits, label_fits, mark_fits, well_formed}
use Rattle.byte_slice.proofs.Numbers.{and_true}
use Rattle.byte_slice.proofs.Parts.{part-drop}
use Rattle.byte_slice.proofs.Words.{word_same}
use Rattle.act_label.specs.Label.{field_number, body_fits}

-- ---- the ways out

module _ (r : Rec) {k : Bool} (ek : k ≡ (leb 1 (get_or r 1 0) && leb (get_or r 1 0) 7)) where
  pub no_operation : not k ≡ true → false ≡ body_fits r
  unfolding body_fits op
  no_operation h = go (leb 1 (get_or r 1 0)) (leb (get_or r 1 0) 7) _ (sym ek ∙ not-true k h)
    where
      go : (p q t : Bool) → (p && q) ≡ false → false ≡ (p && (q && t))
      go true true t e = cc
      go true false t e = refl
      go false q t e = refl

  module _ (known : not k ≡ false) {o : Bool} (eo : o ≡ object_fits r) where
    in_range : (leb 1 (get_or r 1 0) ≡ true) × (leb (get_or r 1 0) 7 ≡ true)
    in_range = and_true (leb 1 (get_or r 1 0)) (leb (get_or r 1 0) 7) (sym ek ∙ not-false k known)

    pub bad_object : not o ≡ true → false ≡ body_fits r
    unfolding body_fits op
    bad_object f = let (a, b) = in_range in rw (a, b, ← eo, not-true o f)

    module _ {p : Bool} (go : not o ≡ false) (ep : p ≡ folder_fits r) where
      pub bad_folder : not p ≡ true → false ≡ body_fits r
      unfolding body_fits op
      bad_folder f = let (a, b) = in_range in rw (a, b, ← eo, not-false o go, ← ep, not-true p f)

      module _ {d : Bool} (gp : not p ≡ false) (ed : d ≡ date_fits r) where
        pub bad_date : not d ≡ true → false ≡ body_fits r
        unfolding body_fits op
        bad_date f = let (a, b) = in_range in rw (a, b, ← eo, not-false o go, ← ep, not-false p gp, ← ed, not-true d f)

        pub mark_last : {m : Bool} → not d ≡ false → m ≡ mark_fits r → m ≡ body_fits r
        unfolding body_fits op
        mark_last gd em = let (a, b) = in_range in rw (a, b, ← eo, not-false o go, ← ep, not-false p gp, ← ed, not-false d gd, em)

-- ---- two records of one operation that differ in unit and number alone

module _ (r s : Rec) (o : op r ≡ op s) (e : drop 4 r ≡ drop 4 s) where
  byte_same : (i : ℕ) → 4 ≤ i → get_or r i 0 ≡ get_or s i 0
  byte_same i h =
      let k : 4 + (i - 4) ≡ i = omega arith in
      rw k at (sym (get_or-drop 4 r (i - 4) 0) ∙ ap (λ (t : List ℕ). get_or t (i - 4) 0) e ∙ get_or-drop 4 s (i - 4) 0)

  number_same : (i : ℕ) → 4 ≤ i → word r i ≡ word s i
  number_same i h = word_same r s i i (byte_same i h) (byte_same (i + 1) (omega arith))

  part_same : (i n : ℕ) → 4 ≤ i → part r i n ≡ part s i n
  part_same i n h =
      let k : 4 + (i - 4) ≡ i = omega arith in
      rw k at (sym (part-drop r 4 (i - 4) n) ∙ ap (λ (t : List ℕ). part t (i - 4) n) e ∙ part-drop s 4 (i - 4) n)

  seen_same : (u : ℕ) → seen r u ≡ seen s u
  unfolding seen
  seen_same u = number_same (4 + 2 * u) (omega arith)

  names_same : (i : ℕ) → 4 ≤ i → names r i ≡ names s i
  unfolding names
  names_same i h =
      rw (byte_same i h, byte_same (i + 1) (omega arith), number_same (i + 2) (omega arith), seen_same (get_or s i 0))

  unused_same : (i n : ℕ) → 4 ≤ i → unused r i n ≡ unused s i n
  unfolding unused
  unused_same i n h = rw (part_same i n h)

  pub body_same : body_fits r ≡ body_fits s
  unfolding body_fits object_fits folder_fits date_fits mark_fits
  body_same =
      rw (o, names_same 20 (omega arith), unused_same 20 4 (omega arith), names_same 24 (omega arith), unused_same 24 4 (omega arith), number_same 28 (omega arith), byte_same 30 (omega arith), byte_same 31 (omega arith), unused_same 64 16 (omega arith))

  pub label_same : label_of r ≡ label_of s
  unfolding label_of
  label_same = part_same 32 32 (omega arith)

  pub label_fits_same : label_fits r ≡ label_fits s
  unfolding label_fits
  label_fits_same = rw (o, label_same, unused_same 32 32 (omega arith))

  pub field_same : field_number r ≡ field_number s
  unfolding field_number
  field_same = rw (label_fits_same, label_same)

-- ---- well formed

-- a record of 80 bytes whose unit is known, with a number of at least 1 and one less as its own seen
pub formed_by_body : (r : Rec) → length r ≡ 80 → unit r ≤ 7 → 1 ≤ num r → seen r (unit r) ≡ num r - 1 → well_formed r ≡ (body_fits r && label_fits r)
unfolding well_formed head_fits body_fits
formed_by_body r n u m s =
    rw (eq-eqb (length r) 80 n, le-leb (unit r) 7 u, le-leb 1 (num r) m, eq-eqb (seen r (unit r)) (num r - 1) s)
    (go (leb 1 (op r)) (leb (op r) 7) (object_fits r) (folder_fits r) (date_fits r) (label_fits r) (mark_fits r))
  where
    go : (a b c d e f g : Bool) → ((a && (b && true)) && (c && (d && (e && (f && g))))) ≡ ((a && (b && (c && (d && (e && g))))) && f)
    go false b c d e f g = refl
    go true false c d e f g = refl
    go true true false d e f g = refl
    go true true true false e f g = refl
    go true true true true false f g = refl
    go true true true true true false false = refl
    go true true true true true false true = refl
    go true true true true true true false = refl
    go true true true true true true true = refl
