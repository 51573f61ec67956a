-- The head line from one of its parts on, which functions of their own write.
-- Assumes nothing.
use Rattle.std.specs.Prelude.{ℕ, List, [], ◌∷◌, ◌++◌}
use Rattle.model.specs.Listing.{decimal, unit_word, records_word}

unfoldable pub head_records : ℕ → List ℕ
head_records n = records_word ++ (decimal n ++ (10 ∷ []))

unfoldable pub head_unit : ℕ → ℕ → List ℕ
head_unit u n = unit_word ++ (decimal u ++ head_records n)
