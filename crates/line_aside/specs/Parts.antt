-- An aside line from one of its parts on, which functions of their own write.
-- Assumes nothing.
use Rattle.std.specs.Prelude.{ℕ, List, [], ◌∷◌, ◌++◌, get_or}
use Rattle.model.specs.Bytes.{part}
use Rattle.model.specs.Listing.{decimal, reason_word, marks_word, marked_text, state_text}

unfoldable pub aside_marks : List ℕ → List ℕ
aside_marks row = marks_word ++ (marked_text (part row 8 4) ++ (state_text (get_or row 5 0) ++ (10 ∷ [])))

unfoldable pub aside_reason : List ℕ → List ℕ
aside_reason row = reason_word ++ (decimal (get_or row 4 0) ++ aside_marks row)
