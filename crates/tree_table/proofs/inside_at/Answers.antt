-- The folder of the entry in row i.
use Rattle.model.specs.Table.{entry_in}
use Rattle.tree_table.proofs.inside_at.Goals as goal

pub returns : goal.returns
unfolding entry_in
returns c = cc
