-- The number of each way in which two vectors stand to each other.
-- Assumes nothing.
use Rattle.std.specs.Prelude.{ℕ}
use Rattle.vector_compare.specs.declared.Standing.{Standing}
use Rattle.vector_compare.specs.declared.Standing.TheVariants.{Identical, FirstAhead, SecondAhead, BothAhead}

abbrev pub number_of : Standing → ℕ
number_of Identical = 0
number_of FirstAhead = 1
number_of SecondAhead = 2
number_of BothAhead = 3
