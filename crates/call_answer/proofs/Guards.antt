-- The checks that come before log and base are judged, and a call refused by a number: one law for each way out, over plain values.
-- Assumes nothing.
use Prim.Native.Nat.{ℕ, zero, suc, ◌≤◌, ◌<◌}
use native.Mathlib.Omega.{arith}
use mathlib.Core.Path.{◌≡◌, refl}
use mathlib.Core.Bool.{Bool, true, false, cond, not, ◌&&◌}
use mathlib.Core.List.{List}
use lib.Dec.{leb, eqb}
use lib.ListN.{length}
use borrow.Author.Tests.{eq-eqb, ne_eqb, eqb-true, le-leb, lt-leb, leb-true, not-true, not-false}
use Rattle.call_model.specs.Outcome.{Outcome, refusal, or_refused, early_number}
use Rattle.byte_slice.proofs.Numbers.{and_true}

-- ---- the ways out of `early_number`

module _ (u : ℕ) (log base : List ℕ) (ok row : Bool) where
  pub log_length : (length log ≡ 40960 → ⊥) → 1 ≡ early_number u log base ok row
  log_length h = rw (ne_eqb (length log) 40960 h)

  module _ (a : length log ≡ 40960) where
    pub base_length : (length base ≡ 43032 → ⊥) → 1 ≡ early_number u log base ok row
    base_length h = rw (eq-eqb (length log) 40960 a, ne_eqb (length base) 43032 h)

    module _ (d : length base ≡ 43032) where
      pub lent_length : not ok ≡ true → 1 ≡ early_number u log base ok row
      lent_length h = rw (eq-eqb (length log) 40960 a, eq-eqb (length base) 43032 d, not-true ok h)

      module _ (b : not ok ≡ false) where
        pub unit_above : 7 < u → 21 ≡ early_number u log base ok row
        unit_above h = rw (eq-eqb (length log) 40960 a, eq-eqb (length base) 43032 d, not-false ok b, lt-leb u 7 h)

        module _ (c : u ≤ 7) where
          pub row-length : not row ≡ true → 2 ≡ early_number u log base ok row
          row-length h = rw (eq-eqb (length log) 40960 a, eq-eqb (length base) 43032 d, not-false ok b, le-leb u 7 c, not-true row h)

          pub early_passes : not row ≡ false → 0 ≡ early_number u log base ok row
          early_passes h = rw (eq-eqb (length log) 40960 a, eq-eqb (length base) 43032 d, not-false ok b, le-leb u 7 c, not-false row h)

-- ---- what 0 says

early_means : (t s r : Bool) → ◌≡◌ {A = ℕ} (cond t (cond s (cond r 0 2) 21) 1) 0 → (t ≡ true) × (s ≡ true) × (r ≡ true)
early_means true true true e = (refl, refl, refl)
early_means true true false e = absurd (omega arith)
early_means true false r e = absurd (omega arith)
early_means false s r e = absurd (omega arith)

module _ (u : ℕ) (log base : List ℕ) (ok row : Bool) (e : early_number u log base ok row ≡ 0) where
  means : ((eqb (length log) 40960 && (eqb (length base) 43032 && ok)) ≡ true) × (leb u 7 ≡ true) × (row ≡ true)
  means = early_means (eqb (length log) 40960 && (eqb (length base) 43032 && ok)) (leb u 7) row e

  behind : (eqb (length base) 43032 ≡ true) × (ok ≡ true)
  behind = and_true (eqb (length base) 43032) ok (and_true (eqb (length log) 40960) (eqb (length base) 43032 && ok) means.0).1

  pub early_long : length log ≡ 40960
  early_long = eqb-true (length log) 40960 (and_true (eqb (length log) 40960) (eqb (length base) 43032 && ok) means.0).0

  pub early_based : length base ≡ 43032
  early_based = eqb-true (length base) 43032 behind.0

  pub early_lent : ok ≡ true
  early_lent = behind.1

  pub early_unit : u ≤ 7
  early_unit = leb-true u 7 means.1

  pub early_row : row ≡ true
  early_row = means.2

-- ---- a call refused

pub refused_by : (n : ℕ) (log lent : List ℕ) (o : Outcome) → (n ≡ 0 → ⊥) → refusal n log lent ≡ or_refused n log lent o
refused_by zero log lent o h = absurd (h refl)
refused_by (suc n) log lent o h = refl
