-- Block k of the records of a log, with these letters, behind so many other blocks.
use Rattle.write_file_blocks.proofs.Blocks.{run_of_log}
use Rattle.write_file_blocks.proofs.run_block.Goals as goal

pub returns : goal.returns
returns c = search (run_of_log)
