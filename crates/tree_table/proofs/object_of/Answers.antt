-- The object that a record names.
use Rattle.model.specs.Record.{object_of}
use Rattle.tree_table.proofs.object_of.Goals as goal

pub returns : goal.returns
unfolding object_of
returns c = cc
