-- The chains of identities, and the table of the folders' rows.
-- Assumes nothing.
use Rattle.std.specs.Prelude.{ℕ, ◌<◌, ◌%◌, ◌≡◌, cond, List, eqb, get_or, length}
use Rattle.base_model.specs.Base.{base_entry, id_at, place_of, is_folder_row}

-- the chain of an identity
unfoldable pub link_of : ℕ → ℕ
link_of k = k % 1021

unfoldable pub id_key : List ℕ → ℕ → ℕ → ℕ
id_key b n i = link_of (id_at b n i)

-- where the folder f stands: 0 for the root, one above the row of a folder, 513 for neither
unfoldable pub up_of : List ℕ → ℕ → ℕ → ℕ
up_of b n f = cond (eqb f 0) 0 (cond (is_folder_row b (place_of b n f)) (place_of b n f) 513)

-- the table of the first i entries' folders
pub record Ups (b : List ℕ) (n : ℕ) (ups : List ℕ) (i : ℕ) : Type 0 where
  pub long : length ups ≡ 512
  pub up : (j : ℕ) → j < i → get_or ups j 0 ≡ up_of b n (base_entry b j).inside
