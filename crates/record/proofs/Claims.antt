-- Claims R1 and R4: the test of a record says exactly what it should, and what it says of names.
-- Assumes nothing.
use Prim.Native.Nat.{ℕ, ◌+◌, ◌≤◌}
use native.Mathlib.Omega.{arith}
use mathlib.Core.Path.{◌≡◌, refl}
use mathlib.Core.Logic.{◌⊎◌, inl, inr, ⊎_elim, ◌↔◌}
use mathlib.Core.Bool.{Bool, true, false, ◌||◌}
use lib.ListN.{get_or, length}
use borrow.Author.Tests.{le-leb}
use Rattle.model.specs.Bytes.{word, part}
use Rattle.model.specs.Record.{Rec, identity, root, identity_at, object_of, folder_of, unit, op, num, label_of, uses_object, uses_folder, uses_label, uses_mark, unused, names, object_fits, folder_fits, date_fits, label_fits, mark_fits, well_formed}
use Rattle.byte_slice.proofs.Numbers.{eq_or_ne}
use Rattle.record_date.proofs.Claims.{date_means, real_date}
use Rattle.record_label.proofs.Claims.{label_means, a_label}
use Rattle.record_label.specs.Label.{Label}
use Rattle.record.specs.WellFormed.{Zero, Named, Folder, Used, WellFormed}
use Rattle.record.specs.WellFormed.Used.{make_folder, make_trace, store, remove, rename, settle, move}
use Rattle.record.proofs.Fields.{judged, all_judged, zero_is, names_is, head_is, well_head, well_object, well_no_object, well_folder, well_no_folder, well_label, well_no_label, well_no_mark, well_date}

-- ---- the test holds only of what is well formed

module _ (r : Rec) (e : well_formed r ≡ true) where
  label_text_lem : uses_label (op r) ≡ true → Label (part r 32 32)
  unfolding label_of
  label_text_lem u = label_means (part r 32 32) (well_label r e u)

  used_1 : op r ≡ 1 → Used r
  unfolding uses_object uses_folder uses_label uses_mark
  used_1 o = make_folder o (well_no_object r e (rw o)) (well_folder r e (rw o)) (label_text_lem (rw o)) (well_no_mark r e (rw o))

  used_2 : op r ≡ 2 → Used r
  unfolding uses_object uses_folder uses_label
  used_2 o = make_trace o (well_no_object r e (rw o)) (well_folder r e (rw o)) (label_text_lem (rw o))

  used_3 : op r ≡ 3 → Used r
  unfolding uses_object uses_folder uses_label
  used_3 o = store o (well_object r e (rw o)) (well_no_folder r e (rw o)) (well_no_label r e (rw o))

  used_4 : op r ≡ 4 → Used r
  unfolding uses_object uses_folder uses_label uses_mark
  used_4 o = remove o (well_object r e (rw o)) (well_no_folder r e (rw o)) (well_no_label r e (rw o)) (well_no_mark r e (rw o))

  used_5 : op r ≡ 5 → Used r
  unfolding uses_object uses_folder uses_label uses_mark
  used_5 o = rename o (well_object r e (rw o)) (well_no_folder r e (rw o)) (label_text_lem (rw o)) (well_no_mark r e (rw o))

  used_6 : op r ≡ 6 → Used r
  unfolding uses_object uses_folder uses_label uses_mark
  used_6 o = settle o (well_object r e (rw o)) (well_no_folder r e (rw o)) (well_no_label r e (rw o)) (well_no_mark r e (rw o))

  used_7 : op r ≡ 7 → Used r
  unfolding uses_object uses_folder uses_label uses_mark
  used_7 o = move o (well_object r e (rw o)) (well_folder r e (rw o)) (label_text_lem (rw o)) (well_no_mark r e (rw o))

  well_used : Used r
  well_used =
      let lo = (well_head r e).op_from in
      let hi = (well_head r e).op_to in
      ⊎_elim used_1 (λ n1.
      ⊎_elim used_2 (λ n2.
      ⊎_elim used_3 (λ n3.
      ⊎_elim used_4 (λ n4.
      ⊎_elim used_5 (λ n5.
      ⊎_elim used_6 (λ n6. used_7 (omega arith))
      (eq_or_ne (op r) 6)) (eq_or_ne (op r) 5)) (eq_or_ne (op r) 4)) (eq_or_ne (op r) 3)) (eq_or_ne (op r) 2)) (eq_or_ne (op r) 1)

  pub well_means : WellFormed r
  unfolding date_fits
  well_means = record {
    size = (judged r e).size;
    unit_known = (well_head r e).unit_known;
    number = (well_head r e).number;
    own = (well_head r e).own;
    date = date_means (word r 28) (get_or r 30 0) (get_or r 31 0) (well_date r e);
    used = well_used;
  }

-- ---- the test holds of all that is well formed

module _ (r : Rec) (n : length r ≡ 80) where
  zero : (at k : ℕ) → at + k ≤ 80 → Zero r at k → unused r at k ≡ true
  zero at k h z = zero_is r at k (omega arith) z

  used_op : Used r → (1 ≤ op r) × (op r ≤ 7)
  used_op (make_folder o a b c d) = (omega arith, omega arith)
  used_op (make_trace o a b c) = (omega arith, omega arith)
  used_op (store o a b c) = (omega arith, omega arith)
  used_op (remove o a b c d) = (omega arith, omega arith)
  used_op (rename o a b c d) = (omega arith, omega arith)
  used_op (settle o a b c d) = (omega arith, omega arith)
  used_op (move o a b c d) = (omega arith, omega arith)

  used_object : Used r → object_fits r ≡ true
  unfolding object_fits uses_object
  used_object (make_folder o a b c d) = rw o (zero 20 4 (omega arith) a)
  used_object (make_trace o a b c) = rw o (zero 20 4 (omega arith) a)
  used_object (store o a b c) = rw o (names_is r 20 a)
  used_object (remove o a b c d) = rw o (names_is r 20 a)
  used_object (rename o a b c d) = rw o (names_is r 20 a)
  used_object (settle o a b c d) = rw o (names_is r 20 a)
  used_object (move o a b c d) = rw o (names_is r 20 a)

  root_or_named : Folder r → (unused r 24 4 || names r 24) ≡ true
  root_or_named = ⊎_elim (λ z. rw (zero 24 4 (omega arith) z)) (λ m. rw (names_is r 24 m) (go (unused r 24 4)))
    where
      go : (t : Bool) → (t || true) ≡ true
      go true = refl
      go false = refl

  used_folder : Used r → folder_fits r ≡ true
  unfolding folder_fits uses_folder
  used_folder (make_folder o a b c d) = rw o (root_or_named b)
  used_folder (make_trace o a b c) = rw o (root_or_named b)
  used_folder (store o a b c) = rw o (zero 24 4 (omega arith) b)
  used_folder (remove o a b c d) = rw o (zero 24 4 (omega arith) b)
  used_folder (rename o a b c d) = rw o (zero 24 4 (omega arith) b)
  used_folder (settle o a b c d) = rw o (zero 24 4 (omega arith) b)
  used_folder (move o a b c d) = rw o (root_or_named b)

  used_label : Used r → label_fits r ≡ true
  unfolding label_fits uses_label label_of
  used_label (make_folder o a b c d) = rw o (a_label (part r 32 32) c)
  used_label (make_trace o a b c) = rw o (a_label (part r 32 32) c)
  used_label (store o a b c) = rw o (zero 32 32 (omega arith) c)
  used_label (remove o a b c d) = rw o (zero 32 32 (omega arith) c)
  used_label (rename o a b c d) = rw o (a_label (part r 32 32) c)
  used_label (settle o a b c d) = rw o (zero 32 32 (omega arith) c)
  used_label (move o a b c d) = rw o (a_label (part r 32 32) c)

  used_mark : Used r → mark_fits r ≡ true
  unfolding mark_fits uses_mark
  used_mark (make_folder o a b c d) = rw o (zero 64 16 (omega arith) d)
  used_mark (make_trace o a b c) = rw o
  used_mark (store o a b c) = rw o
  used_mark (remove o a b c d) = rw o (zero 64 16 (omega arith) d)
  used_mark (rename o a b c d) = rw o (zero 64 16 (omega arith) d)
  used_mark (settle o a b c d) = rw o (zero 64 16 (omega arith) d)
  used_mark (move o a b c d) = rw o (zero 64 16 (omega arith) d)

pub well_is : (r : Rec) → WellFormed r → well_formed r ≡ true
unfolding date_fits
well_is r w =
    let n = w.size in
    let u = w.used in
    let (lo, hi) = used_op r n u in
    all_judged r (record {
      size = n;
      head = head_is r (record { unit_known = w.unit_known; op_from = lo; op_to = hi; number = w.number; own = w.own });
      object = used_object r n u;
      folder = used_folder r n u;
      date = real_date (word r 28) (get_or r 30 0) (get_or r 31 0) w.date;
      label = used_label r n u;
      mark = used_mark r n u;
    })

-- R1
pub well_formed_exact : (r : Rec) → well_formed r ≡ true ↔ WellFormed r
well_formed_exact r = (well_means r, well_is r)

-- ---- R4: the root is named only as a folder, and a named identity lies within seen

-- a named identity is not the root
named_not_root : (r : Rec) (at : ℕ) → Named r at → identity_at r at ≡ root → ⊥
unfolding identity_at identity
named_not_root r at n z = omega (arith, n.number)

pub object_named : (r : Rec) → well_formed r ≡ true → 3 ≤ op r → Named r 20 × (object_of r ≡ root → ⊥)
unfolding uses_object object_of
object_named r e h = let n = well_object r e (le-leb 3 (op r) h) in (n, named_not_root r 20 n)

pub folder_root_or_named : (r : Rec) → well_formed r ≡ true → uses_folder (op r) ≡ true → (folder_of r ≡ root) ⊎ (Named r 24 × (folder_of r ≡ root → ⊥))
unfolding folder_of identity_at identity word
folder_root_or_named r e h = ⊎_elim
    (λ z. inl (omega (arith, z 0 (omega arith), z 2 (omega arith), z 3 (omega arith))))
    (λ n. inr (n, named_not_root r 24 n))
    (well_folder r e h)

-- no record names itself
pub names_not_itself : (r : Rec) (at : ℕ) → well_formed r ≡ true → Named r at → get_or r at 0 ≡ unit r → word r (at + 2) ≡ num r → ⊥
names_not_itself r at e n u m = omega (arith, rw u at n.within, (well_head r e).own)
