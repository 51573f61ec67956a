-- The parts of an identity, and a date.
-- Assumes nothing.
use Prim.Native.Nat.{ℕ, ◌+◌, ◌/◌, ◌%◌, ◌≤◌}
use native.Mathlib.Omega.{arith}
use mathlib.Core.Path.{◌≡◌, refl}
use mathlib.Core.List.{List, [], ◌∷◌}
use lib.ListN.{length, get_or}
use Rattle.model.specs.Bytes.{word}
use Rattle.model.specs.Listing.{decimal, identity_text, date_text, four_digits, two_digits}
use Rattle.line_text.specs.Written.{Wrote}
use Rattle.line_text.proofs.Chains.{InThree}

-- ---- an identity

pub identity_is : (s : List ℕ) (v : ℕ) → v ≡ word s 2 → InThree (identity_text s) (decimal (get_or s 0 0)) (46 ∷ []) (decimal v)
unfolding identity_text
identity_is s v e = record { parts = rw e }

-- ---- a date

pub date_length : (s : List ℕ) → length (date_text s) ≡ 10
unfolding date_text four_digits two_digits
date_length s = refl

pub ten_fit : (s a : List ℕ) (at : ℕ) → at + length (date_text s) ≤ length a → at + 10 ≤ length a
ten_fit s a at room = omega (arith, date_length s)

pub wrote_date : {a b : List ℕ} {at r : ℕ} (s : List ℕ) (w y m d y₁ y₂ y₃ y₄ m₁ m₂ d₁ d₂ : ℕ)
    → Wrote a b at r (y₁ ∷ y₂ ∷ y₃ ∷ y₄ ∷ 45 ∷ m₁ ∷ m₂ ∷ 45 ∷ d₁ ∷ d₂ ∷ [])
    → w ≡ word s 0 → y ≡ w → m ≡ get_or s 2 0 → d ≡ get_or s 3 0
    → y₁ ≡ 48 + y / 1000 % 10 → y₂ ≡ 48 + y / 100 % 10 → y₃ ≡ 48 + y / 10 % 10 → y₄ ≡ 48 + y % 10
    → m₁ ≡ 48 + m / 10 % 10 → m₂ ≡ 48 + m % 10 → d₁ ≡ 48 + d / 10 % 10 → d₂ ≡ 48 + d % 10
    → Wrote a b at r (date_text s)
unfolding date_text four_digits two_digits
wrote_date s w y m d y₁ y₂ y₃ y₄ m₁ m₂ d₁ d₂ t ew ey em ed e₁ e₂ e₃ e₄ f₁ f₂ g₁ g₂ =
    rw (← ew, ← ey, ← em, ← ed, ← e₁, ← e₂, ← e₃, ← e₄, ← f₁, ← f₂, ← g₁, ← g₂) t
