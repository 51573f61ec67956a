-- One entry put into an index, taken out of it, or moved within it, in any bytes.
-- Document 02, K6.
-- Assumes nothing.
use Rattle.std.specs.Prelude.{ℕ, ◌+◌, ◌-◌, ◌*◌, cond, List, ◌++◌, ltb, replicate}
use Rattle.model.specs.Bytes.{two, part, put_at}
use Rattle.model.specs.Table.{identity_bytes}
use Rattle.index_model.specs.Index.{index_places, folder_key, rows_in, seek, row_is}

-- the row of the entry k in the folder f under the label t
unfoldable pub row_bytes : ℕ → List ℕ → ℕ → List ℕ
row_bytes f t k = identity_bytes f ++ (t ++ identity_bytes k)

-- a row becomes row i of n, and those from there on move up
unfoldable pub put_row : List ℕ → ℕ → ℕ → List ℕ → List ℕ
put_row b n i row = put_at (put_at b (4 + 40 * i) (row ++ part b (4 + 40 * i) (40 * (n - i)))) 0 (two (n + 1))

-- the entry k put in by folder and label; nothing where there is no room
unfoldable pub put_in : List ℕ → ℕ → List ℕ → ℕ → List ℕ
put_in b f t k = cond (ltb (rows_in b) index_places) (put_row b (rows_in b) (seek b (folder_key f) t) (row_bytes f t k)) b

-- row i of n goes, those behind it move down, and the last becomes zeros
unfoldable pub take_row : List ℕ → ℕ → ℕ → List ℕ
take_row b n i = put_at (put_at b (4 + 40 * i) (part b (4 + 40 * i + 40) (40 * (n - i - 1)) ++ replicate 40 0)) 0 (two (n - 1))

-- the entry of a folder and a label taken out; nothing where there is none
unfoldable pub take_out : List ℕ → ℕ → List ℕ → List ℕ
take_out b f t = cond (row_is b f t (seek b (folder_key f) t)) (take_row b (rows_in b) (seek b (folder_key f) t)) b

-- the entry k under another folder and label
unfoldable pub move_in : List ℕ → ℕ → List ℕ → ℕ → List ℕ → ℕ → List ℕ
move_in b f t g s k = put_in (take_out b f t) g s k
