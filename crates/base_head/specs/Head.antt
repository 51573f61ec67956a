-- What the head of a base tells.
-- Assumes nothing.
use Rattle.std.specs.Prelude.{ℕ, List, ◌∷◌, [], get_or}
use Rattle.model.specs.Bytes.{word}
use Rattle.model.specs.Log.{no_counts}
use Rattle.base_model.specs.Base.{base_vector}

-- the list, the base vector, how many entries and how many asides
pub record BaseHead : Type 0 where
  pub list : ℕ
  pub folded : List ℕ
  pub entries : ℕ
  pub asides : ℕ

abbrev pub headed : ℕ → List ℕ → ℕ → ℕ → BaseHead
headed m v n k = record { list = m; folded = v; entries = n; asides = k }

unfoldable pub head_of : List ℕ → BaseHead
head_of b = headed (get_or b 0 0) (base_vector b) (word b 2) (word b 4)

abbrev pub no_head : BaseHead
no_head = headed 0 no_counts 0 0

-- the numbers of the bits of a byte
abbrev pub bit_numbers : List ℕ
bit_numbers = 1 ∷ 2 ∷ 4 ∷ 8 ∷ 16 ∷ 32 ∷ 64 ∷ 128 ∷ []
