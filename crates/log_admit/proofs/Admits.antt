-- What admitting a record does to the tables, told by the list of the records before.
-- Assumes nothing.
use Prim.Native.Nat.{ℕ, suc, ◌≤◌, ◌<◌}
use native.Mathlib.Numerals.{add-one}
use native.Mathlib.Omega.{arith}
use mathlib.Core.Path.{◌≡◌, sym, ap, ◌∙◌}
use mathlib.Core.Logic.{⊎_elim}
use mathlib.Core.List.{List, ◌∷◌}
use lib.ListN.{length}
use borrow.Author.Tests.{ne_eqb}
use Rattle.model.specs.Record.{Rec, unit, num}
use Rattle.model.specs.Log.{rank, count_on, record_fault}
use Rattle.byte_slice.proofs.Numbers.{eq_or_ne}
use Rattle.log_laws.proofs.Formed.{well_unit}
use Rattle.log_closure.specs.Tables.{fault_by, floor_of, Spare, Indexed, Noted, admit_of}
use Rattle.log_admit.proofs.Counts.{count_few}
use Rattle.log_admit.proofs.Tables.{held_at, fault_is, indexed_note}
use Rattle.log_admit.proofs.Faults.{no_fault}

module _ (base : List ℕ) (at : ℕ → Rec) (top : ℕ) (m : List Rec) (held places seens : List ℕ) (h : Indexed base at top m held places seens) where
  pub indexed_spare : length m < 512 → Spare base held
  indexed_spare k =
      record {
        behind = λ u g. omega (arith, held_at base at top m held places seens h u g);
        below = λ u g. omega (arith, held_at base at top m held places seens h u g, count_few u m);
      }

  module _ (floor : ℕ) (f : floor ≡ floor_of m) (r : Rec) (p : ℕ) (o : Noted) (e : o ≡ admit_of base r p held floor places seens) where
    same_fault_lem : o.number ≡ fault_by base floor held places seens r
    unfolding admit_of
    same_fault_lem =
        ⊎_elim
        (λ (z : fault_by base floor held places seens r ≡ 0). ap (λ (x : Noted). x.number) e ∙ rw z)
        (λ (z : fault_by base floor held places seens r ≡ 0 → ⊥). ap (λ (x : Noted). x.number) e ∙ rw (ne_eqb (fault_by base floor held places seens r) 0 z))
        (eq_or_ne (fault_by base floor held places seens r) 0)

    -- the number is the record's first fault
    pub admit_fault : o.number ≡ record_fault base m r
    admit_fault = same_fault_lem ∙ fault_is base at top m held places seens h floor f r

    -- without a fault its number is its unit's next
    pub admit_next : o.number ≡ 0 → num r ≡ suc (count_on base (unit r) m)
    admit_next z =
        let (w, n) = no_fault r base floor held places seens (sym (sym same_fault_lem ∙ z)) in
        n ∙ ap suc (held_at base at top m held places seens h (unit r) (well_unit r w))

    -- without a fault the record is held, and the next must rank above it
    module _ (k : length m < 512) (lo : top ≤ p) (hi : p < 518) (q : at p ≡ r) (z : o.number ≡ 0) where
      zero_fault : fault_by base floor held places seens r ≡ 0
      zero_fault = sym same_fault_lem ∙ z

      pub admit_indexed : Indexed base at (suc p) (r ∷ m) o.held o.places o.seens
      unfolding admit_of
      admit_indexed =
          let u8 = well_unit r (no_fault r base floor held places seens (sym zero_fault)).0 in
          rw (e, zero_fault) (indexed_note base at top m held places seens h r p u8 (admit_next z) k lo hi q)

      pub admit_floor : o.floor ≡ floor_of (r ∷ m)
      unfolding admit_of floor_of
      admit_floor = rw (e, zero_fault) (add-one (rank r))
