-- Compares two vectors; the count is the answer.
use Rattle.sab_vectors.proofs.Calls.{first_wrong, second_wrong, lent_wrong, compares}
use Rattle.sab_vectors.proofs.compare.Goals as goal

pub returns-then-first-ne16 : goal.returns-then-first-ne16
returns-then-first-ne16 c = search (first_wrong)

pub returns-then-second-ne16 : goal.returns-then-second-ne16
returns-then-second-ne16 c = search (second_wrong)

pub returns-then-lacks-ne-LACKS_BYTES : goal.returns-then-lacks-ne-LACKS_BYTES
returns-then-lacks-ne-LACKS_BYTES c = search (lent_wrong)

pub returns : goal.returns
returns c = search (compares)
