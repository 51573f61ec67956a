-- A real Gregorian date of 1990 to 2199, in plain words.
-- Assumes nothing.
use Rattle.std.specs.Prelude.{ℕ, ◌%◌, ◌≤◌, ◌≡◌, ◌⊎◌}

-- divides by 4, not by 100 unless by 400
abbrev pub Leap : ℕ → Type 0
Leap y = (y % 4 ≡ 0) × ((y % 100 ≡ 0 → ⊥) ⊎ (y % 400 ≡ 0))

-- April, June, September, November
abbrev pub Short : ℕ → Type 0
Short m = (m ≡ 4) ⊎ ((m ≡ 6) ⊎ ((m ≡ 9) ⊎ (m ≡ 11)))

-- a day that the month of that year has
pub data HasDay (y m d : ℕ) : Type 0 where
  of_28 : m ≡ 2 → d ≤ 28 → HasDay y m d
  of_29 : m ≡ 2 → Leap y → d ≤ 29 → HasDay y m d
  of_30 : Short m → d ≤ 30 → HasDay y m d
  of_31 : (m ≡ 2 → ⊥) → (Short m → ⊥) → d ≤ 31 → HasDay y m d

pub record RealDate (y m d : ℕ) : Type 0 where
  pub year_from : 1990 ≤ y
  pub year_to : y ≤ 2199
  pub month_from : 1 ≤ m
  pub month_to : m ≤ 12
  pub day_from : 1 ≤ d
  pub day_to : HasDay y m d
