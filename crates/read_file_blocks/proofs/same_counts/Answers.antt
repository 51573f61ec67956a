-- The same counts.
use mathlib.Core.Path.{◌∙◌}
use Rattle.read_file_blocks.proofs.Agreement.{pointwise_same}
use Rattle.read_file_blocks.proofs.same_counts.Goals as goal

pub returns : goal.returns
returns c = c.eq.ensures ∙ pointwise_same _ _
