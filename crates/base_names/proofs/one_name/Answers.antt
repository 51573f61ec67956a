-- Rows j and i have one folder and one label.
use Rattle.base_names.proofs.Names.{name_other, name_same}
use Rattle.base_names.proofs.one_name.Goals as goal

pub returns-then-identity_at : goal.returns-then-identity_at
returns-then-identity_at c = search (name_other)

pub returns : goal.returns
returns c = search (name_same)
