-- The records of a file behind a base vector with a list: none has a fault exactly if they are sound, of listed units, and at most 512. Those of
-- an SAB1 file are the case of all units listed and no record before.
-- Assumes nothing.
use Prim.Native.Nat.{ℕ, suc, ◌+◌, ◌/◌, ◌≤◌}
use native.Mathlib.Omega.{arith}
use mathlib.Core.Path.{◌≡◌, refl}
use mathlib.Core.Logic.{◌⊎◌, inl, inr, ⊎_elim}
use mathlib.Core.Bool.{Bool, true, false, cond, ◌&&◌}
use mathlib.Core.List.{List, [], ◌∷◌}
use lib.Dec.{ltb, eqb}
use lib.ListN.{length}
use borrow.Author.Tests.{eqb-true, eqb-false, eq-eqb, lt-ltb, ltb-true}
use Rattle.model.specs.Record.{Rec, unit, well_formed}
use Rattle.model.specs.Log.{no_counts, is_next, is_within, is_closed, rises, record_fault, sound_after}
use Rattle.model.specs.File.{fault, records_fault}
use Rattle.base_model.specs.Base.{is_listed}
use Rattle.sab2_model.specs.Sab2.{read_fault, records_fault_on}
use Rattle.byte_slice.proofs.Numbers.{bool_cases, and_true, true_and}
use Rattle.log_laws.specs.Members.{Has}
use Rattle.log_laws.proofs.Formed.{well_unit}
use Rattle.take_laws.proofs.Union.{all_eight}

-- ---- one record

-- where all are listed, a record is checked as in a log
read_all : (v : List ℕ) (pre : List Rec) (r : Rec) → record_fault v pre r ≡ read_fault 255 v pre r
unfolding read_fault record_fault
read_all v pre r =
    ⊎_elim
    (λ (w : well_formed r ≡ true). rw (w, all_eight (unit r) (well_unit r w)))
    (λ (w : well_formed r ≡ false). rw w)
    (bool_cases (well_formed r))

module _ (m : ℕ) (v : List ℕ) (pre : List Rec) (r : Rec) where
  read_test : record_fault v pre r ≡ 0 → is_listed m (unit r) ≡ true → read_fault m v pre r ≡ 0
  unfolding read_fault record_fault
  read_test e h =
      ⊎_elim
      (λ (w : well_formed r ≡ true). rw (w, h) (rw w at e))
      (λ (w : well_formed r ≡ false). let z : ◌≡◌ {A = ℕ} 7 0 = rw w at e in absurd (omega arith))
      (bool_cases (well_formed r))

  read_from_lem : read_fault m v pre r ≡ 0 → (record_fault v pre r ≡ 0) × (is_listed m (unit r) ≡ true)
  unfolding read_fault
  read_from_lem e =
      ⊎_elim
      (λ (w : well_formed r ≡ true).
      ⊎_elim
      (λ (h : is_listed m (unit r) ≡ true). (rw (w, h) at e, h))
      (λ (h : is_listed m (unit r) ≡ false). let z : ◌≡◌ {A = ℕ} 26 0 = rw (w, h) at e in absurd (omega arith))
      (bool_cases (is_listed m (unit r))))
      (λ (w : well_formed r ≡ false). let z : ◌≡◌ {A = ℕ} 7 0 = rw w at e in absurd (omega arith))
      (bool_cases (well_formed r))

  -- 7, 26, 20, 8, 9 or 0
  read_small : read_fault m v pre r ≤ 26
  unfolding read_fault record_fault
  read_small = small (well_formed r) (is_listed m (unit r)) (rises pre r) (is_next v pre r && is_within v pre r) (is_closed v pre r)
    where
      small : (a b c d e : Bool) → cond a (cond b (cond a (cond c (cond d (cond e 0 9) 8) 20) 7) 26) 7 ≤ 26
      small true true true true true = omega arith
      small true true true true false = omega arith
      small true true true false e = omega arith
      small true true false d e = omega arith
      small true false c d e = omega arith
      small false b c d e = omega arith

-- ---- one after another

module _ (m : ℕ) (v : List ℕ) (p : ℕ) where
  -- sound records of listed units have no fault
  pub sound_faultless : (l pre : List Rec) (i : ℕ) → sound_after v pre l ≡ true → ((s : Rec) → Has s l → is_listed m (unit s) ≡ true) → i + length l ≤ 512
      → records_fault_on m v p pre i l ≡ fault 0 0
  unfolding records_fault_on sound_after
  sound_faultless [] pre i s a h = refl
  sound_faultless (r ∷ l) pre i s a h =
      let (x, y) = and_true (eqb (record_fault v pre r) 0) (sound_after v (r ∷ pre) l) s in
      let z : read_fault m v pre r ≡ 0 = read_test m v pre r (eqb-true (record_fault v pre r) 0 x) (a r (inl refl)) in
      rw (lt-ltb i 512 (omega arith), z) (sound_faultless l (r ∷ pre) (suc i) y (λ t k. a t (inr k)) (omega arith))

  -- and those without a fault are sound, of listed units, and at most 512
  pub faultless_sound : (l pre : List Rec) (i : ℕ) → i ≤ 512 → (records_fault_on m v p pre i l).number ≡ 0
      → (sound_after v pre l ≡ true) × (i + length l ≤ 512) × ((s : Rec) → Has s l → is_listed m (unit s) ≡ true)
  unfolding records_fault_on sound_after fault
  faultless_sound [] pre i k e = (refl, omega arith, λ s h. absurd h)
  faultless_sound (r ∷ l) pre i k e =
      go (bool_cases (ltb i 512)) (bool_cases (eqb (read_fault m v pre r) 0)) (λ h d. faultless_sound l (r ∷ pre) (suc i) h d)
    where
      go : (ltb i 512 ≡ true) ⊎ (ltb i 512 ≡ false) → (eqb (read_fault m v pre r) 0 ≡ true) ⊎ (eqb (read_fault m v pre r) 0 ≡ false)
          → (suc i ≤ 512 → (records_fault_on m v p (r ∷ pre) (suc i) l).number ≡ 0
          → (sound_after v (r ∷ pre) l ≡ true) × (suc i + length l ≤ 512) × ((s : Rec) → Has s l → is_listed m (unit s) ≡ true))
          → (sound_after v pre (r ∷ l) ≡ true) × (i + length (r ∷ l) ≤ 512) × ((s : Rec) → Has s (r ∷ l) → is_listed m (unit s) ≡ true)
      go (inl a) (inl b) f =
          let (x, y, z) = f (omega (arith, ltb-true i 512 a)) (rw (a, b) at e) in
          let (q, w) = read_from_lem m v pre r (eqb-true (read_fault m v pre r) 0 b) in (
            true_and (eqb (record_fault v pre r) 0) (sound_after v (r ∷ pre) l) (eq-eqb (record_fault v pre r) 0 q) x,
            omega arith,
            λ s h. ⊎_elim (λ (j : s ≡ r). rw j w) (λ (j : Has s l). z s j) h,
          )
      go (inl a) (inr b) f = let z : read_fault m v pre r ≡ 0 = rw (a, b) at e in absurd (eqb-false (read_fault m v pre r) 0 b z)
      go (inr a) b f = let z : ◌≡◌ {A = ℕ} 11 0 = rw a at e in absurd (omega arith)

  -- 7, 26, 20, 8, 9, 11 or 0
  pub records_small : (l pre : List Rec) (i : ℕ) → (records_fault_on m v p pre i l).number ≤ 26
  unfolding records_fault_on fault
  records_small [] pre i = omega arith
  records_small (r ∷ l) pre i =
      ⊎_elim
      (λ (a : ltb i 512 ≡ true).
      ⊎_elim
      (λ (b : eqb (read_fault m v pre r) 0 ≡ true). rw (a, b) (records_small l (r ∷ pre) (suc i)))
      (λ (b : eqb (read_fault m v pre r) 0 ≡ false). rw (a, b) (read_small m v pre r))
      (bool_cases (eqb (read_fault m v pre r) 0)))
      (λ (a : ltb i 512 ≡ false). rw a (omega arith))
      (bool_cases (ltb i 512))

-- ---- those of an SAB1 file

pub records_sab1 : (l pre : List Rec) (i : ℕ) → records_fault pre i l ≡ records_fault_on 255 no_counts 0 pre i l
unfolding records_fault records_fault_on
records_sab1 [] pre i = refl
records_sab1 (r ∷ l) pre i =
    let z : 0 + i / 6 ≡ i / 6 = omega arith in
    rw (read_all no_counts pre r, records_sab1 l (r ∷ pre) (suc i), z)
