-- What handing out returns and leaves, when the asked vector is given in bytes.
-- Assumes nothing.
use Rattle.std.specs.Prelude.{ℕ, cond, List, eqb, length}
use Rattle.model.specs.Vector.{vector_at}
use Rattle.call_model.specs.Outcome.{hand_of}
use Rattle.sab_words.specs.Called.{Called, wrong_buffer, told}

-- handing out to the vector in the 16 bytes asked
unfoldable pub handed_of : ℕ → ℕ → List ℕ → List ℕ → List ℕ → List ℕ → Called
handed_of archive u log base asked lent =
    cond (eqb (length asked) 16) (told (hand_of archive u log base (vector_at asked 0) lent)) (wrong_buffer log lent)
