-- What merging two files returns in its one word, and what it leaves.
-- Assumes nothing.
use Rattle.std.specs.Prelude.{ℕ, cond, eqb}
use Rattle.model.specs.Merge.{Merged}
use Rattle.sab_words.specs.Words.{packed}
use Rattle.sab_words.specs.Called.{Called, called}

-- the count of the word: of blocks; of a refusal the file at fault, 1 or 2, or 0 for neither
unfoldable pub count_of : Merged → ℕ
count_of m = cond (eqb m.number 0) m.blocks m.which

-- a merge in one word
unfoldable pub joined : Merged → Called
joined m = called (packed m.number m.place (count_of m)) m.log m.lent
