-- What the calls of a row return in their one word, and what they leave of the lent buffers.
-- Assumes nothing.
use Rattle.std.specs.Prelude.{ℕ, cond, List, eqb, length}
use Rattle.model.specs.Vector.{vector_at}
use Rattle.row_model.specs.Row.{Trial, try_of, hand_row_of}
use Rattle.sab_words.specs.Words.{packed}
use Rattle.sab_words.specs.Called.{Called, wrong_buffer, told}

-- handing out a row to the vector in the 16 bytes asked
unfoldable pub row_handed_of : ℕ → ℕ → List ℕ → List ℕ → List ℕ → List ℕ → Called
row_handed_of archive u log base asked lent =
    cond (eqb (length asked) 16) (told (hand_row_of archive u log base (vector_at asked 0) lent)) (wrong_buffer log lent)

-- the word returned, and the copy, the tree table and the report as they are left
pub record TriedCall : Type 0 where
  pub word : ℕ
  pub copy : List ℕ
  pub tree : List ℕ
  pub report : List ℕ

abbrev pub tried_call : ℕ → List ℕ → List ℕ → List ℕ → TriedCall
tried_call w copy tree report = record { word = w; copy = copy; tree = tree; report = report }

unfoldable pub told_trial : Trial → TriedCall
told_trial o = tried_call (packed o.number o.place 0) o.copy o.tree o.report

unfoldable pub row_tried_of : ℕ → ℕ → List ℕ → List ℕ → List ℕ → List ℕ → List ℕ → List ℕ → TriedCall
row_tried_of archive u log base row copy tree report = told_trial (try_of archive u log base row copy tree report)
