-- The entry in row i is present and in the folder f.
use Rattle.tree_lookup.proofs.Labels.{not_in, in_if}
use Rattle.tree_lookup.proofs.is_in.Goals as goal

pub returns-else-is_present : goal.returns-else-is_present
returns-else-is_present c = search (not_in)

pub returns-then-is_present : goal.returns-then-is_present
returns-then-is_present c = search (in_if)
