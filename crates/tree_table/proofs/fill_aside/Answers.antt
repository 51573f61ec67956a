-- The row of a record that stands aside.
use Rattle.tree_table.proofs.Fields.{aside-written}
use Rattle.tree_table.proofs.fill_aside.Goals as goal

pub returns : goal.returns
returns c = search (aside-written)
