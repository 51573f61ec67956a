-- What comparing returns and leaves, when the two vectors are given in bytes.
-- Assumes nothing.
use Rattle.std.specs.Prelude.{ℕ, cond, ◌&&◌, List, [], ◌++◌, eqb, length}
use Rattle.model.specs.Bytes.{four}
use Rattle.model.specs.Vector.{Compared, comparison_of, vector_at}
use Rattle.sab_words.specs.Words.{packed}
use Rattle.sab_words.specs.Called.{Called, called, wrong_buffer}

-- the bytes lent for the two numbers
abbrev pub lacks_size : ℕ
lacks_size = 8

-- the answer is the count; how many records the first lacks, and how many the second, four bytes each [F92]
unfoldable pub told_compared : Compared → Called
told_compared c = called (packed 0 0 c.answer) [] (four c.first ++ four c.second)

-- the vectors in 16 bytes each compared. There is no log
unfoldable pub compared_of : List ℕ → List ℕ → List ℕ → Called
compared_of a b lent =
    cond (eqb (length a) 16 && (eqb (length b) 16 && eqb (length lent) lacks_size))
    (told_compared (comparison_of (vector_at a 0) (vector_at b 0)))
    (wrong_buffer [] lent)
