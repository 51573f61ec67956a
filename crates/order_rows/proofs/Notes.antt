-- The rows of a table noted by the slots of their identities.
-- Assumes nothing.
use Prim.Native.Nat.{ℕ, suc, ◌+◌, ◌-◌, ◌<◌}
use native.Mathlib.Numerals.{add-one}
use native.Mathlib.Omega.{arith}
use mathlib.Core.Path.{◌≡◌, sym, ap, ◌∙◌}
use mathlib.Core.Logic.{⊎_elim}
use mathlib.Core.Bool.{Bool, false}
use mathlib.Core.List.{List}
use lib.ListN.{get_or, length, set, replicate, length-set, length-replicate}
use lib.Seq.{get_or-set_same, get_or-set_other}
use borrow.Author.Tests.{eq-eqb, ne_eqb}
use Rattle.model.specs.Record.{unit_of, number_of}
use Rattle.base_model.specs.Base.{last_to}
use Rattle.byte_slice.proofs.Numbers.{eq_or_ne}
use Rattle.byte_slice.proofs.Compare.{blank-zeros, blank_get_d}
use Rattle.log_closure.specs.Tables.{slot_of}
use Rattle.log_admit.proofs.Tables.{slot_below, slot_apart}
use Rattle.base_links.proofs.Links.{last_le}
use Rattle.order_laws.specs.Marking.{mark_slot}
use Rattle.order_rows.specs.declared.Rows.{Rows}
use Rattle.order_rows.specs.Compared.{Slotted, key_in, row_count, row_alike, is_key, row_by, row_shown, Rowed, Noted}

-- ---- slots

pub slot_mark : (k s : ℕ) → s ≡ slot_of (unit_of k) (number_of k) → s ≡ mark_slot k
unfolding mark_slot
slot_mark k s e = e

slot_low : (k : ℕ) → Slotted k → mark_slot k < 4096
unfolding mark_slot
slot_low k w = slot_below (unit_of k) (number_of k) (omega arith) w.some w.few

slots_apart : (j k : ℕ) → Slotted j → Slotted k → (j ≡ k → ⊥) → mark_slot j ≡ mark_slot k → ⊥
unfolding mark_slot
slots_apart j k v w d e =
    slot_apart (unit_of j) (number_of j) (unit_of k) (number_of k) v.some v.few w.some w.few (λ p. d (omega (arith, p.0, p.1))) e

-- ---- notes

pub notes_none : (p : Rows) (b notes : List ℕ) → notes ≡ replicate 4096 0 → Noted p b 0 notes
unfolding last_to
notes_none p b notes e =
    record {
      long = ap (λ (l : List ℕ). length l) e ∙ length-replicate {A = ℕ} 4096 0;
      at = λ k w. rw e (blank_get_d (replicate 4096 0) (mark_slot k) (blank-zeros 4096));
    }

pub key_slotted : (p : Rows) (b : List ℕ) (i k : ℕ) → Rowed p b → i < row_count p b → k ≡ key_in p b i → Slotted k
key_slotted p b i k w h e = rw e (w.slots i h)

-- one row more
pub notes_more : (p : Rows) (b notes : List ℕ) (i n k s x : ℕ) → Rowed p b → n ≡ row_count p b → i < n → k ≡ key_in p b i → s ≡ mark_slot k → x ≡ i + 1 → Noted p b i notes → Noted p b (i + 1) (set notes s x)
unfolding last_to is_key
notes_more p b notes i n k s x w c h e q y v =
    let own : Slotted (key_in p b i) = w.slots i (omega arith) in
    let m : s ≡ mark_slot (key_in p b i) = q ∙ ap mark_slot e in
    record {
      long = length-set notes s x ∙ v.long;
      at = λ j u.
          ⊎_elim
          (λ (z : key_in p b i ≡ j).
          rw (y, m, add-one i, eq-eqb (key_in p b i) j z)
          (rw (← z) (get_or-set_same notes (mark_slot (key_in p b i)) (suc i) 0 (omega (arith, v.long, slot_low (key_in p b i) own)))))
          (λ (z : key_in p b i ≡ j → ⊥).
          rw (y, m, add-one i, ne_eqb (key_in p b i) j z)
          (get_or-set_other notes (mark_slot (key_in p b i)) (mark_slot j) (suc i) 0 (slots_apart j (key_in p b i) u own (λ y. z (sym y))) ∙ v.at j u))
          (eq_or_ne (key_in p b i) j);
    }

-- ---- one row looked for

module _ (p : Rows) (a b notes : List ℕ) (i k s j : ℕ) (wa : Rowed p a) (wb : Rowed p b) (v : Noted p b (row_count p b) notes) (h : i < row_count p a) (e : k ≡ key_in p a i) (q : s ≡ mark_slot k) (f : j ≡ get_or notes s 0) where
  found : j ≡ row_by p a b i
  unfolding row_by
  found = f ∙ rw (q, e) (v.at (key_in p a i) (wa.slots i h))

  pub shown_none : j ≡ 0 → false ≡ row_shown p a b i
  unfolding row_shown
  shown_none z = rw (eq-eqb (row_by p a b i) 0 (sym found ∙ z))

  pub shown_low : (j ≡ 0 → ⊥) → j - 1 < 1024
  unfolding row_by
  shown_low z = omega (arith, found, last_le (is_key p b (key_in p a i)) (row_count p b), wb.few)

  pub shown_some : (j ≡ 0 → ⊥) → (r : Bool) → r ≡ row_alike p a i b (j - 1) → r ≡ row_shown p a b i
  unfolding row_shown
  shown_some z r c = c ∙ rw (← found, ne_eqb j 0 z)
