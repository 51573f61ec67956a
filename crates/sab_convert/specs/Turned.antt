-- What a conversion returns in its one word, and what it leaves of the lent file.
-- Assumes nothing.
use Rattle.std.specs.Prelude.{ℕ, List}
use Rattle.sab2_model.specs.Calls.{Converted}
use Rattle.sab_words.specs.Words.{packed}

pub record Turned : Type 0 where
  pub word : ℕ
  pub lent : List ℕ

abbrev pub turned : ℕ → List ℕ → Turned
turned w lent = record { word = w; lent = lent }

-- the word, and the lent file as it is left
unfoldable pub turned_of : Converted → Turned
turned_of c = turned (packed c.number c.place c.blocks) c.lent
