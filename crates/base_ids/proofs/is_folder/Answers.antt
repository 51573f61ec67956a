-- The entry in row i is a folder.
use Rattle.base_ids.proofs.Ids.{folder_is}
use Rattle.base_ids.proofs.is_folder.Goals as goal

pub returns : goal.returns
returns c = search (folder_is)
