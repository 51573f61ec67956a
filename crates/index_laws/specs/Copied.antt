-- The index made afresh from the bytes of a tree table: the order of its rows by their numbers, then a row for each.
-- Assumes nothing.
use Rattle.std.specs.Prelude.{ℕ, zero, suc, ◌+◌, ◌*◌, ◌<◌, Bool, cond, List, [], ◌∷◌, ◌++◌, get_or}
use Rattle.model.specs.Table.{entry_in}
use Rattle.model.specs.Bytes.{two, part, padded}
use Rattle.model.specs.Replay.{Entry}
use Rattle.index_model.specs.Index.{index_places, entry_before}

abbrev pub entry_row_at : List ℕ → ℕ → Entry
entry_row_at b i = entry_in b (4 + 72 * i)

-- row i of a table put among others by key
unfoldable pub placed_row : List ℕ → ℕ → List ℕ → List ℕ
placed_row b i [] = i ∷ []
placed_row b i (j ∷ o) = cond (entry_before (entry_row_at b j) (entry_row_at b i)) (j ∷ placed_row b i o) (i ∷ j ∷ o)

-- the n rows from row i on, in order
unfoldable pub ordered_rows : List ℕ → ℕ → ℕ → List ℕ
ordered_rows b i zero = []
ordered_rows b i (suc n) = placed_row b i (ordered_rows b (suc i) n)

-- the row of the index for row i of a table: folder, label, entry
unfoldable pub copied_row : List ℕ → ℕ → List ℕ
copied_row b i = part b (4 + 72 * i + 8) 4 ++ (part b (4 + 72 * i + 24) 32 ++ part b (4 + 72 * i + 4) 4)

unfoldable pub copied_rows : List ℕ → List ℕ → List ℕ
copied_rows b [] = []
copied_rows b (i ∷ o) = copied_row b i ++ copied_rows b o

-- the index of the entries in the first n rows of a table
unfoldable pub index_from : List ℕ → ℕ → List ℕ
index_from b n = two n ++ (0 ∷ 0 ∷ padded 40960 (copied_rows b (ordered_rows b 0 n)))

-- the row in place i of an order comes before a row
unfoldable pub order_before : List ℕ → List ℕ → ℕ → ℕ → Bool
order_before b o row i = entry_before (entry_row_at b (get_or o i 0)) (entry_row_at b row)

-- the first k numbers of an order are those of rows
pub record Low (o : List ℕ) (k : ℕ) : Type 0 where
  pub low : (i : ℕ) → i < k → get_or o i 0 < index_places
