-- Zeros are written behind the first n blocks.
use Rattle.write_file.proofs.Whole.{cleared}
use Rattle.write_file.proofs.clear_behind.Goals as goal

pub returns : goal.returns
returns c = search (cleared)
