-- Folders that an index row can hold.
-- Assumes nothing.
use Rattle.std.specs.Prelude.{ℕ, ◌+◌, ◌*◌, ◌<◌, List}
use Rattle.model.specs.Table.{entry_in}

-- the entries in the first n rows of a table have folders of a known unit and a 16-bit number, and identities alike
pub record Inside (b : List ℕ) (n : ℕ) : Type 0 where
  pub folder : (i : ℕ) → i < n → (entry_in b (4 + 72 * i)).inside < 524288
  pub entry : (i : ℕ) → i < n → (entry_in b (4 + 72 * i)).made < 524288
