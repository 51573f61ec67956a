-- The chains of labels in folders.
-- Assumes nothing.
use Rattle.std.specs.Prelude.{ℕ, List}
use Rattle.tree_maps.specs.Keys.{chain_of}
use Rattle.base_model.specs.Base.{base_entry}

-- the chain of the entry in row i, by its folder and label
unfoldable pub name_key : List ℕ → ℕ → ℕ
name_key b i = chain_of (base_entry b i)
