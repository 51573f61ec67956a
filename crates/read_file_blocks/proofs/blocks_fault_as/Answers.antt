-- The first fault of the n blocks of a file with these letters and so many rows, with the place of its block.
use Rattle.refusal.proofs.Refusals.{not_zero}
use Rattle.read_file_blocks.proofs.Agreement.{stops, goes_on_lem, ends}
use Rattle.read_file_blocks.proofs.blocks_fault_as.Goals as goal

pub returns-in-Err : goal.returns-in-Err
returns-in-Err c = search (stops, not_zero, c.in-Err.ensures)

pub loop-k-preserved : goal.loop-k-preserved
loop-k-preserved c = search (goes_on_lem, c.in_default.ensures)

pub returns : goal.returns
returns c = search (ends)
