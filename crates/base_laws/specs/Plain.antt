-- What the tree of a base must be, in plain words.
-- Assumes nothing.
use Rattle.std.specs.Prelude.{ℕ, ◌+◌, ◌<◌, ◌≡◌, true, List}
use Rattle.model.specs.Record.{root}
use Rattle.model.specs.Replay.{same_label}
use Rattle.base_model.specs.Base.{base_entry, id_at}

-- from f the root is reached through entries of kind 1, each in one of n rows
pub data Reaches (b : List ℕ) (n : ℕ) : ℕ → Type 0 where
  top : {f : ℕ} → f ≡ root → Reaches b n f
  up : {f : ℕ} (j : ℕ) → (f ≡ root → ⊥) → j < n → (base_entry b j).made ≡ f → (base_entry b j).kind ≡ 1 → Reaches b n (base_entry b j).inside → Reaches b n f

-- of n entries and m asides no two have one identity, no two entries in one folder have one label, and each entry reaches the root
pub record Plain (b : List ℕ) (n m : ℕ) : Type 0 where
  pub lone : (i j : ℕ) → i < n + m → j < i → id_at b n j ≡ id_at b n i → ⊥
  pub named : (i j : ℕ) → i < n → j < i → (base_entry b j).inside ≡ (base_entry b i).inside → same_label (base_entry b j).label (base_entry b i).label ≡ true → ⊥
  pub rooted : (i : ℕ) → i < n → Reaches b n (base_entry b i).inside
