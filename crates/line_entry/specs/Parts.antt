-- An entry line from one of its parts on, which functions of their own write.
-- Assumes nothing.
use Rattle.std.specs.Prelude.{ℕ, List, [], ◌∷◌, ◌++◌, get_or}
use Rattle.model.specs.Bytes.{part}
use Rattle.model.specs.Listing.{in_word, identity_text, label_text, date_text, mark_text, disputed_text}

unfoldable pub entry_mark : List ℕ → List ℕ
entry_mark row = mark_text (get_or row 0 0) (part row 56 16) ++ (disputed_text (get_or row 1 0) ++ (10 ∷ []))

unfoldable pub entry_date : List ℕ → List ℕ
entry_date row = 32 ∷ (date_text (part row 20 4) ++ entry_mark row)

unfoldable pub entry_label : List ℕ → List ℕ
entry_label row = 32 ∷ (label_text (part row 24 32) ++ entry_date row)

unfoldable pub entry_folder : List ℕ → List ℕ
entry_folder row = in_word ++ (identity_text (part row 8 4) ++ entry_label row)
