-- Parts of the lines of a plan, as they are written one behind another.
-- Assumes nothing.
use Rattle.std.specs.Prelude.{ℕ, List, [], ◌∷◌, ◌++◌}
use Rattle.model.specs.Listing.{decimal}
use Rattle.plan_model.specs.Plan.{answer_word, skipped_line, pair_lines}

-- the line of a pair from its answer on
unfoldable pub pair_answer : ℕ → List ℕ
pair_answer n = answer_word ++ (decimal n ++ (10 ∷ []))

-- from its second unit on
unfoldable pub pair_other : ℕ → ℕ → List ℕ
pair_other b n = (32 ∷ []) ++ (decimal b ++ pair_answer n)

-- the text of a round from its pairs on
unfoldable pub pairs_skipped : List ℕ → ℕ → List ℕ
pairs_skipped s k = pair_lines s 8 ++ skipped_line k
