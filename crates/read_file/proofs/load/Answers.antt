-- The records in n blocks of a file become the log; archive, unit and vector stand in its first block.
use Rattle.read_file.proofs.Copied.{loaded}
use Rattle.read_file.proofs.load.Goals as goal

pub returns : goal.returns
returns c = search (loaded)
