-- What a well-formed record has.
-- Assumes nothing.
use Prim.Native.Nat.{ℕ, suc, ◌-◌, ◌≤◌, ◌<◌}
use native.Mathlib.Omega.{arith}
use mathlib.Core.Path.{◌≡◌, refl}
use mathlib.Core.Bool.{true, false, ◌&&◌}
use mathlib.Core.List.{List, [], ◌∷◌}
use lib.Dec.{leb, eqb}
use lib.ListN.{length}
use borrow.Author.Tests.{eqb-true, leb-true}
use Rattle.model.specs.Bytes.{word, blank}
use Rattle.model.specs.Record.{Rec, unit, op, num, seen, head_fits, object_fits, folder_fits, date_fits, label_fits, mark_fits, well_formed, has_stroke}
use Rattle.byte_slice.proofs.Numbers.{and_true, test_false}
use Rattle.byte_slice.proofs.Compare.{blank_get_d}

pub well_length : (r : Rec) → well_formed r ≡ true → length r ≡ 80
unfolding well_formed
well_length r e =
    eqb-true (length r) 80 (and_true (eqb (length r) 80) (head_fits r && (object_fits r && (folder_fits r && (date_fits r && (label_fits r && mark_fits r))))) e).0

well_head : (r : Rec) → well_formed r ≡ true → head_fits r ≡ true
unfolding well_formed
well_head r e =
    let (a, b) = and_true (eqb (length r) 80) (head_fits r && (object_fits r && (folder_fits r && (date_fits r && (label_fits r && mark_fits r))))) e in
    (and_true (head_fits r) (object_fits r && (folder_fits r && (date_fits r && (label_fits r && mark_fits r)))) b).0

pub well_fields : (r : Rec) → well_formed r ≡ true → (folder_fits r ≡ true) × (date_fits r ≡ true) × (label_fits r ≡ true) × (mark_fits r ≡ true)
unfolding well_formed
well_fields r e =
    let a = (and_true (eqb (length r) 80) (head_fits r && (object_fits r && (folder_fits r && (date_fits r && (label_fits r && mark_fits r))))) e).1 in
    let b = (and_true (head_fits r) (object_fits r && (folder_fits r && (date_fits r && (label_fits r && mark_fits r)))) a).1 in
    let c = (and_true (object_fits r) (folder_fits r && (date_fits r && (label_fits r && mark_fits r))) b).1 in
    let (x, d) = and_true (folder_fits r) (date_fits r && (label_fits r && mark_fits r)) c in
    let (y, f) = and_true (date_fits r) (label_fits r && mark_fits r) d in
    let (z, g) = and_true (label_fits r) (mark_fits r) f in
    (x, y, z, g)

pub well_label : (r : Rec) → well_formed r ≡ true → label_fits r ≡ true
well_label r e = (well_fields r e).2

pub well_unit : (r : Rec) → well_formed r ≡ true → unit r < 8
unfolding head_fits
well_unit r e =
    let (a, b) = and_true (leb (unit r) 7) (leb 1 (op r) && (leb (op r) 7 && (leb 1 (num r) && eqb (seen r (unit r)) (num r - 1)))) (well_head r e) in
    omega (arith, leb-true (unit r) 7 a)

-- the operation is one of those known
pub well_ops : (r : Rec) → well_formed r ≡ true → (0 < op r) × (op r ≤ 7)
unfolding head_fits
well_ops r e =
    let (a, b) = and_true (leb (unit r) 7) (leb 1 (op r) && (leb (op r) 7 && (leb 1 (num r) && eqb (seen r (unit r)) (num r - 1)))) (well_head r e) in
    let (c, d) = and_true (leb 1 (op r)) (leb (op r) 7 && (leb 1 (num r) && eqb (seen r (unit r)) (num r - 1))) b in
    let (f, g) = and_true (leb (op r) 7) (leb 1 (num r) && eqb (seen r (unit r)) (num r - 1)) d in
    (omega (arith, leb-true 1 (op r) c), leb-true (op r) 7 f)

pub well_op : (r : Rec) → well_formed r ≡ true → 0 < op r
well_op r e = (well_ops r e).0

-- the number is one above what was seen of the own unit
pub well_own : (r : Rec) → well_formed r ≡ true → num r ≡ suc (seen r (unit r))
unfolding head_fits
well_own r e =
    let (a, b) = and_true (leb (unit r) 7) (leb 1 (op r) && (leb (op r) 7 && (leb 1 (num r) && eqb (seen r (unit r)) (num r - 1)))) (well_head r e) in
    let (c, d) = and_true (leb 1 (op r)) (leb (op r) 7 && (leb 1 (num r) && eqb (seen r (unit r)) (num r - 1))) b in
    let (f, g) = and_true (leb (op r) 7) (leb 1 (num r) && eqb (seen r (unit r)) (num r - 1)) d in
    let (h, i) = and_true (leb 1 (num r)) (eqb (seen r (unit r)) (num r - 1)) g in
    omega (arith, leb-true 1 (num r) h, eqb-true (seen r (unit r)) (num r - 1) i)

-- a record is not all zeros
pub well_not_blank : (r : Rec) → well_formed r ≡ true → blank r ≡ false
unfolding num word
well_not_blank r e = test_false (blank r) (λ b. omega (arith, well_own r e, blank_get_d r 2 b, blank_get_d r 3 b))

-- zeros have no stroke
pub blank_no_stroke : (t : List ℕ) → blank t ≡ true → has_stroke t ≡ false
unfolding blank has_stroke
blank_no_stroke [] e = refl
blank_no_stroke (x ∷ t) e =
    let (a, b) = and_true (eqb x 0) (blank t) e in
    let z : x ≡ 0 = eqb-true x 0 a in
    rw z (blank_no_stroke t b)
