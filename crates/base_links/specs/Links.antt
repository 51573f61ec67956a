-- Chains over numbered things: all whose key is h are linked, the last first. Two tables of numbers hold them, in which a thing stands as
-- one above its number, and 0 is none.
-- Assumes nothing.
use Rattle.std.specs.Prelude.{ℕ, ◌-◌, ◌≤◌, ◌<◌, ◌≡◌, Bool, List, eqb, get_or, length}
use Rattle.base_model.specs.Base.{last_to}

unfoldable pub has_key : (ℕ → ℕ) → ℕ → ℕ → Bool
has_key key h j = eqb (key j) h

-- the tables of the first i: the last of each key, and behind each the last before it that has its key
pub record Linked (key : ℕ → ℕ) (heads next : List ℕ) (i : ℕ) : Type 0 where
  pub heads-long : length heads ≡ 1024
  pub next-long : length next ≡ 1024
  pub first : (h : ℕ) → h < 1024 → get_or heads h 0 ≡ last_to (has_key key h) i
  pub behind : (j : ℕ) → j < i → get_or next j 0 ≡ last_to (has_key key (key j)) j

-- on the chain h a search among the first i for what passes a test has come down to q
pub record Walk (p : ℕ → Bool) (key : ℕ → ℕ) (h i q : ℕ) : Type 0 where
  pub low : q ≤ i
  pub same : last_to p q ≡ last_to p i
  pub chain : 0 < q → key (q - 1) ≡ h
