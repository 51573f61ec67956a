-- The rows of present entries alone, zeros behind them, and the counts.
use Rattle.tree_finish.proofs.Finished.{trim-done}
use Rattle.tree_finish.proofs.trim.Goals as goal

pub returns : goal.returns
returns c = search (trim-done)
