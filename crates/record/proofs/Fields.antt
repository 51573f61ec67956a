-- What follows field by field from the test that a record is well formed.
-- Assumes nothing.
use Prim.Native.Nat.{ℕ, suc, ◌+◌, ◌-◌, ◌≤◌}
use native.Mathlib.Omega.{arith}
use mathlib.Core.Path.{◌≡◌, sym, ◌∙◌}
use mathlib.Core.Logic.{◌⊎◌, inl, inr, ⊎_elim}
use mathlib.Core.Bool.{true, false, ◌&&◌}
use lib.Dec.{leb, eqb}
use lib.ListN.{get_or, length, get_or-eq_default}
use borrow.Author.Tests.{leb-true, eqb-true, le-leb, eq-eqb}
use Rattle.model.specs.Bytes.{word, part}
use Rattle.model.specs.Record.{Rec, unit, op, num, seen, label_of, is_label, uses_object, uses_folder, uses_label, uses_mark, unused, names, head_fits, object_fits, folder_fits, date_fits, label_fits, mark_fits, well_formed}
use Rattle.byte_slice.proofs.Numbers.{lt_or_ge, and_true, or_true}
use Rattle.byte_slice.proofs.Parts.{part_length, get_d_part}
use Rattle.byte_slice.proofs.Compare.{blank_get_d, zeros-blank}
use Rattle.record.specs.WellFormed.{Zero, Named}

-- ---- the tests that make up the whole

pub record Judged (r : Rec) : Type 0 where
  pub size : length r ≡ 80
  pub head : head_fits r ≡ true
  pub object : object_fits r ≡ true
  pub folder : folder_fits r ≡ true
  pub date : date_fits r ≡ true
  pub label : label_fits r ≡ true
  pub mark : mark_fits r ≡ true

pub judged : (r : Rec) → well_formed r ≡ true → Judged r
unfolding well_formed
judged r e =
    let (n, e1) = and_true (eqb (length r) 80) (head_fits r && (object_fits r && (folder_fits r && (date_fits r && (label_fits r && mark_fits r))))) e in
    let (h, e2) = and_true (head_fits r) (object_fits r && (folder_fits r && (date_fits r && (label_fits r && mark_fits r)))) e1 in
    let (o, e3) = and_true (object_fits r) (folder_fits r && (date_fits r && (label_fits r && mark_fits r))) e2 in
    let (f, e4) = and_true (folder_fits r) (date_fits r && (label_fits r && mark_fits r)) e3 in
    let (d, e5) = and_true (date_fits r) (label_fits r && mark_fits r) e4 in
    let (l, m) = and_true (label_fits r) (mark_fits r) e5 in
    record { size = eqb-true (length r) 80 n; head = h; object = o; folder = f; date = d; label = l; mark = m }

pub all_judged : (r : Rec) → Judged r → well_formed r ≡ true
unfolding well_formed
all_judged r j = rw (eq-eqb (length r) 80 j.size, j.head, j.object, j.folder, j.date, j.label, j.mark)

-- ---- unit, operation and number

pub record Head (r : Rec) : Type 0 where
  pub unit_known : unit r ≤ 7
  pub op_from : 1 ≤ op r
  pub op_to : op r ≤ 7
  pub number : 1 ≤ num r
  pub own : num r ≡ suc (seen r (unit r))

pub head_means : (r : Rec) → head_fits r ≡ true → Head r
unfolding head_fits
head_means r e =
    let (a, e1) = and_true (leb (unit r) 7) (leb 1 (op r) && (leb (op r) 7 && (leb 1 (num r) && eqb (seen r (unit r)) (num r - 1)))) e in
    let (b, e2) = and_true (leb 1 (op r)) (leb (op r) 7 && (leb 1 (num r) && eqb (seen r (unit r)) (num r - 1))) e1 in
    let (c, e3) = and_true (leb (op r) 7) (leb 1 (num r) && eqb (seen r (unit r)) (num r - 1)) e2 in
    let (d, f) = and_true (leb 1 (num r)) (eqb (seen r (unit r)) (num r - 1)) e3 in
    let n = leb-true 1 (num r) d in
    let s = eqb-true (seen r (unit r)) (num r - 1) f in
    record { unit_known = leb-true (unit r) 7 a; op_from = leb-true 1 (op r) b; op_to = leb-true (op r) 7 c; number = n; own = omega arith }

pub head_is : (r : Rec) → Head r → head_fits r ≡ true
unfolding head_fits
head_is r h =
    let s : seen r (unit r) ≡ num r - 1 = omega (arith, h.own) in
    rw (le-leb (unit r) 7 h.unit_known, le-leb 1 (op r) h.op_from, le-leb (op r) 7 h.op_to, le-leb 1 (num r) h.number, eq-eqb (seen r (unit r)) (num r - 1) s)

pub well_head : (r : Rec) → well_formed r ≡ true → Head r
well_head r e = head_means r (judged r e).head

-- ---- zero bytes and names

pub zero_means : (r : Rec) (at n : ℕ) → unused r at n ≡ true → Zero r at n
unfolding unused
zero_means r at n e i h = sym (get_d_part r at n i h) ∙ blank_get_d (part r at n) i e

part_past : (r : Rec) (at n i : ℕ) → at + n ≤ length r → n ≤ i → get_or (part r at n) i 0 ≡ 0
part_past r at n i h k = get_or-eq_default (part r at n) 0 {n = i} (omega (arith, part_length r at n h))

pub zero_is : (r : Rec) (at n : ℕ) → at + n ≤ length r → Zero r at n → unused r at n ≡ true
unfolding unused
zero_is r at n h f = zeros-blank (part r at n) (λ i. ⊎_elim (λ k. get_d_part r at n i k ∙ f i k) (part_past r at n i h) (lt_or_ge i n))

pub names_means : (r : Rec) (at : ℕ) → names r at ≡ true → Named r at
unfolding names
names_means r at e =
    let (a, e1) = and_true (leb (get_or r at 0) 7) (eqb (get_or r (at + 1) 0) 0 && (leb 1 (word r (at + 2)) && leb (word r (at + 2)) (seen r (get_or r at 0)))) e in
    let (b, e2) = and_true (eqb (get_or r (at + 1) 0) 0) (leb 1 (word r (at + 2)) && leb (word r (at + 2)) (seen r (get_or r at 0))) e1 in
    let (c, d) = and_true (leb 1 (word r (at + 2))) (leb (word r (at + 2)) (seen r (get_or r at 0))) e2 in
    record { unit_known = leb-true (get_or r at 0) 7 a; byte_zero = eqb-true (get_or r (at + 1) 0) 0 b; number = leb-true 1 (word r (at + 2)) c; within = leb-true (word r (at + 2)) (seen r (get_or r at 0)) d }

pub names_is : (r : Rec) (at : ℕ) → Named r at → names r at ≡ true
unfolding names
names_is r at n =
    rw (le-leb (get_or r at 0) 7 n.unit_known, eq-eqb (get_or r (at + 1) 0) 0 n.byte_zero, le-leb 1 (word r (at + 2)) n.number, le-leb (word r (at + 2)) (seen r (get_or r at 0)) n.within)

-- ---- the fields by whether the operation uses them

module _ (r : Rec) (e : well_formed r ≡ true) where
  pub well_object : uses_object (op r) ≡ true → Named r 20
  unfolding object_fits
  well_object u = names_means r 20 (rw u at (judged r e).object)

  pub well_no_object : uses_object (op r) ≡ false → Zero r 20 4
  unfolding object_fits
  well_no_object u = zero_means r 20 4 (rw u at (judged r e).object)

  pub well_folder : uses_folder (op r) ≡ true → Zero r 24 4 ⊎ Named r 24
  unfolding folder_fits
  well_folder u = ⊎_elim (λ z. inl (zero_means r 24 4 z)) (λ n. inr (names_means r 24 n)) (or_true (unused r 24 4) (names r 24) (rw u at (judged r e).folder))

  pub well_no_folder : uses_folder (op r) ≡ false → Zero r 24 4
  unfolding folder_fits
  well_no_folder u = zero_means r 24 4 (rw u at (judged r e).folder)

  pub well_label : uses_label (op r) ≡ true → is_label (label_of r) ≡ true
  unfolding label_fits
  well_label u = rw u at (judged r e).label

  pub well_no_label : uses_label (op r) ≡ false → Zero r 32 32
  unfolding label_fits
  well_no_label u = zero_means r 32 32 (rw u at (judged r e).label)

  pub well_no_mark : uses_mark (op r) ≡ false → Zero r 64 16
  unfolding mark_fits
  well_no_mark u = zero_means r 64 16 (rw u at (judged r e).mark)

  pub well_date : date_fits r ≡ true
  well_date = (judged r e).date
