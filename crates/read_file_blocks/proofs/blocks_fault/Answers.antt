-- The same of an SAB1 file.
use Rattle.read_file_blocks.proofs.Agreement.{sab1_blocks}
use Rattle.read_file_blocks.proofs.blocks_fault.Goals as goal

pub returns : goal.returns
returns c = search (sab1_blocks)
