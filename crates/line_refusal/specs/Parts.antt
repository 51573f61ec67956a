-- A refusal from its place on, which a function of its own writes.
-- Assumes nothing.
use Rattle.std.specs.Prelude.{ℕ, List, [], ◌∷◌, ◌++◌}
use Rattle.model.specs.Listing.{decimal, at_word}

unfoldable pub refused_place : ℕ → List ℕ
refused_place p = at_word ++ (decimal p ++ (10 ∷ []))
