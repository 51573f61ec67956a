-- What a comparison says is told: the answer as the count, the two numbers one behind the other in the lent bytes.
use Rattle.std.proofs.Common.{◌∙◌}
use Rattle.sab_vectors.proofs.Calls.{tells_both}
use Rattle.sab_vectors.proofs.tell.Goals as goal

pub returns : goal.returns
returns c = search (tells_both, c.from-2.ensures ∙ c.from.ensures)
