-- The kind of the entry in row i.
use mathlib.Core.Path.{refl}
use Rattle.model.specs.Table.{entry_in}
use Rattle.tree_table.proofs.kind_at.Goals as goal

pub returns : goal.returns
unfolding entry_in
returns c = refl
