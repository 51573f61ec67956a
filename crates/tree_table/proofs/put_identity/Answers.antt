-- An identity is written in four bytes.
use Rattle.tree_table.proofs.Fields.{identity-put}
use Rattle.tree_table.proofs.put_identity.Goals as goal

pub returns : goal.returns
returns c = search (identity-put)
