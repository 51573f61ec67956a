-- The folder of the entry in row i.
use Rattle.base_ids.proofs.Ids.{inside_is}
use Rattle.base_ids.proofs.inside_at.Goals as goal

pub returns : goal.returns
returns c = search (inside_is)
