-- Zeros are written behind the first n blocks.
use Rattle.write_file_blocks.proofs.Blocks.{cleared}
use Rattle.write_file_blocks.proofs.clear_behind.Goals as goal

pub returns : goal.returns
returns c = search (cleared, c.fill.ensures.after (λ y e. e))
