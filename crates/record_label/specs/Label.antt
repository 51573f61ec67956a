-- A label, in plain words.
-- Assumes nothing.
use Rattle.std.specs.Prelude.{ℕ, ◌-◌, ◌≤◌, ◌<◌, ◌≡◌, List, get_or, length}

-- a text of 1 or more bytes hexadecimal 20 to 7E, no space first or last, then zeros
pub record Label (t : List ℕ) : Type 0 where
  pub size : ℕ
  pub some_text : 1 ≤ size
  pub within : size ≤ length t
  pub range_from : (i : ℕ) → i < size → 32 ≤ get_or t i 0
  pub range_to : (i : ℕ) → i < size → get_or t i 0 ≤ 126
  pub first : get_or t 0 0 ≡ 32 → ⊥
  pub last : get_or t (size - 1) 0 ≡ 32 → ⊥
  pub zeros : (i : ℕ) → size ≤ i → get_or t i 0 ≡ 0
