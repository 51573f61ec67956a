-- What the answer of a comparison has to do with its two numbers.
-- Assumes nothing.
use Rattle.std.specs.Prelude.{◌≡◌, ◌↔◌}
use Rattle.model.specs.Vector.{Compared}

-- each answer stands exactly where the two numbers are 0, or are not, as it says [F92]
pub record Ties (c : Compared) : Type 0 where
  pub identical : (c.answer ≡ 0) ↔ ((c.first ≡ 0) × (c.second ≡ 0))
  pub first_dominates : (c.answer ≡ 1) ↔ ((c.first ≡ 0) × (c.second ≡ 0 → ⊥))
  pub second_dominates : (c.answer ≡ 2) ↔ ((c.first ≡ 0 → ⊥) × (c.second ≡ 0))
  pub both_ahead : (c.answer ≡ 3) ↔ ((c.first ≡ 0 → ⊥) × (c.second ≡ 0 → ⊥))
