-- The entry in row i, which is not k, holds a label in the folder f.
use Rattle.tree_lookup.proofs.Labels.{holds_not, holds_itself, holds_same}
use Rattle.tree_lookup.proofs.holds_label.Goals as goal

pub returns-then-not-is_in : goal.returns-then-not-is_in
returns-then-not-is_in c = search (holds_not)

pub returns-else-made_at-k : goal.returns-else-made_at-k
returns-else-made_at-k c = search (holds_itself)

pub returns-then-made_at-k : goal.returns-then-made_at-k
returns-then-made_at-k c = search (holds_same)
