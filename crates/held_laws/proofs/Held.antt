-- List and base, records and vector of a file: there is no fault exactly if all three are right, and 31 exactly if list and base are not. An
-- SAB1 file is the case of an empty base.
-- Assumes nothing.
use Prim.Native.Nat.{ℕ, ◌-◌, ◌≤◌}
use native.Mathlib.Omega.{arith}
use mathlib.Core.Path.{◌≡◌, refl}
use mathlib.Core.Logic.{⊎_elim}
use mathlib.Core.Bool.{Bool, true, false, cond}
use mathlib.Core.List.{List, []}
use lib.Dec.{eqb}
use lib.ListN.{get_or}
use borrow.Author.Tests.{eqb-true, eqb-false}
use Rattle.model.specs.Bytes.{same_bytes}
use Rattle.model.specs.Record.{Rec}
use Rattle.model.specs.Log.{no_counts, vector_on}
use Rattle.model.specs.Block.{vector_in}
use Rattle.model.specs.File.{Fault, fault, or_else, blocks_in, block_at, blocks_fault, file_records, counts_fault, file_fault}
use Rattle.base_model.specs.Base.{empty_base, base_vector}
use Rattle.sab2_model.specs.Sab2.{records_fault_on, counts_fault_on, held_fault}
use Rattle.byte_slice.proofs.Numbers.{bool_cases}
use Rattle.byte_slice.proofs.Compare.{same_eq, eq_same}
use Rattle.log_laws.proofs.Tests.{vector_on-none}
use Rattle.base_laws.proofs.Fresh.{empty_vector}
use Rattle.held_laws.proofs.Records.{records_small, records_sab1}

-- ---- the first of two faults

-- is none if neither is
pub no_fault : (a b : Fault) → (or_else a b).number ≡ 0 → (a.number ≡ 0) × (b.number ≡ 0)
unfolding or_else
no_fault a b e =
    ⊎_elim
    (λ (h : eqb a.number 0 ≡ true). (eqb-true a.number 0 h, rw h at e))
    (λ (h : eqb a.number 0 ≡ false). let z : a.number ≡ 0 = rw h at e in absurd (eqb-false a.number 0 h z))
    (bool_cases (eqb a.number 0))

-- has a number that the first has not only from the second
pub else_other : (a b : Fault) (n : ℕ) → (or_else a b).number ≡ n → (a.number ≡ n → ⊥) → (a.number ≡ 0) × (b.number ≡ n)
unfolding or_else
else_other a b n h d =
    ⊎_elim
    (λ (z : eqb a.number 0 ≡ true). (eqb-true a.number 0 z, rw z at h))
    (λ (z : eqb a.number 0 ≡ false). absurd (d (rw z at h)))
    (bool_cases (eqb a.number 0))

-- has at most the number of either
pub else_small : (a b : Fault) (n : ℕ) → a.number ≤ n → b.number ≤ n → (or_else a b).number ≤ n
unfolding or_else
else_small a b n s t =
    ⊎_elim (λ (z : eqb a.number 0 ≡ true). rw z t) (λ (z : eqb a.number 0 ≡ false). rw z s) (bool_cases (eqb a.number 0))

-- ---- the vector

counts-right : (v : List ℕ) (n : ℕ) (w : List ℕ) (l : List Rec) → w ≡ vector_on v l → counts_fault_on v n w l ≡ fault 0 0
unfolding counts_fault_on
counts-right v n w l e = rw (eq_same w (vector_on v l) e)

counts_from : (v : List ℕ) (n : ℕ) (w : List ℕ) (l : List Rec) → (counts_fault_on v n w l).number ≡ 0 → w ≡ vector_on v l
unfolding counts_fault_on fault
counts_from v n w l e =
    ⊎_elim
    (λ (h : same_bytes w (vector_on v l) ≡ true). same_eq w (vector_on v l) h)
    (λ (h : same_bytes w (vector_on v l) ≡ false). let z : ◌≡◌ {A = ℕ} 20 0 = rw h at e in absurd (omega arith))
    (bool_cases (same_bytes w (vector_on v l)))

counts_small : (v : List ℕ) (n : ℕ) (w : List ℕ) (l : List Rec) → (counts_fault_on v n w l).number ≤ 26
unfolding counts_fault_on fault
counts_small v n w l =
    ⊎_elim
    (λ (h : same_bytes w (vector_on v l) ≡ true). rw h (omega arith))
    (λ (h : same_bytes w (vector_on v l) ≡ false). rw h (omega arith))
    (bool_cases (same_bytes w (vector_on v l)))

-- ---- what a file holds

module _ (b : List ℕ) (p n : ℕ) (w : List ℕ) (l : List Rec) where
  pub held-right : records_fault_on (get_or b 0 0) (base_vector b) p [] 0 l ≡ fault 0 0 → w ≡ vector_on (base_vector b) l → held_fault true b p n w l ≡ fault 0 0
  unfolding held_fault or_else fault
  held-right r e = rw (r, counts-right (base_vector b) n w l e)

  pub held_from : (stands : Bool) → (held_fault stands b p n w l).number ≡ 0
      → (stands ≡ true) × ((records_fault_on (get_or b 0 0) (base_vector b) p [] 0 l).number ≡ 0) × (w ≡ vector_on (base_vector b) l)
  unfolding held_fault fault
  held_from stands e =
      let c : Fault = counts_fault_on (base_vector b) n w l in
      let r : Fault = records_fault_on (get_or b 0 0) (base_vector b) p [] 0 l in
      let (x, y) = no_fault (cond stands (fault 0 0) (fault 31 0)) (or_else r c) e in
      let (s, t) = no_fault r c y in (
        ⊎_elim
            (λ (h : stands ≡ true). h)
            (λ (h : stands ≡ false). let z : ◌≡◌ {A = ℕ} 31 0 = rw h at x in absurd (omega arith))
            (bool_cases stands),
        s,
        counts_from (base_vector b) n w l t,
      )

  -- 31 at place 0 where list and base do not stand
  pub held_31 : held_fault false b p n w l ≡ fault 31 0
  unfolding held_fault or_else fault
  held_31 = refl

  -- and no such number where they do
  pub held_small : (held_fault true b p n w l).number ≤ 26
  unfolding held_fault fault
  held_small =
      else_small (fault 0 0) (or_else (records_fault_on (get_or b 0 0) (base_vector b) p [] 0 l) (counts_fault_on (base_vector b) n w l)) 26 (omega arith)
      (else_small (records_fault_on (get_or b 0 0) (base_vector b) p [] 0 l) (counts_fault_on (base_vector b) n w l) 26 (records_small (get_or b 0 0) (base_vector b) p l [] 0) (counts_small (base_vector b) n w l))

-- ---- an SAB1 file

counts_sab1 : (f : List ℕ) → counts_fault f ≡ counts_fault_on no_counts (blocks_in f) (vector_in (block_at f 0)) (file_records f)
unfolding counts_fault counts_fault_on
counts_sab1 f = rw (vector_on-none (file_records f))

pub fault_sab1 : (f : List ℕ) → file_fault f ≡ or_else (blocks_fault f 0 (blocks_in f)) (held_fault true empty_base 0 (blocks_in f) (vector_in (block_at f 0)) (file_records f))
unfolding file_fault held_fault or_else fault empty_base
fault_sab1 f = rw (empty_vector, records_sab1 (file_records f) [] 0, counts_sab1 f)
