-- The folder that a record names.
use Rattle.model.specs.Record.{folder_of}
use Rattle.tree_table.proofs.folder_of.Goals as goal

pub returns : goal.returns
unfolding folder_of
returns c = cc
