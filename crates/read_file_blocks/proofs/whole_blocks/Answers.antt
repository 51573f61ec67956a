-- The file has 1 to 86 whole blocks.
use Rattle.read_file_blocks.proofs.Agreement.{few_blocks}
use Rattle.read_file_blocks.proofs.whole_blocks.Goals as goal

pub returns : goal.returns
returns c = search (few_blocks)
