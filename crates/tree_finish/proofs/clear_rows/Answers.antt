-- The rows from one up to another become zero.
use Rattle.tree_finish.proofs.Finished.{rows_cleared}
use Rattle.tree_finish.proofs.clear_rows.Goals as goal

pub returns : goal.returns
returns c = rows_cleared _ _ _ _ c.requires.0 c.requires.1 c.requires.2 (c.fill.ensures.after (λ y e. e))
