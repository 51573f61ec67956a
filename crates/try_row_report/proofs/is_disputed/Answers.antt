-- The entry in row i is disputed.
use Rattle.try_row_report.specs.Listed.{disputed_in}
use borrow.Author.Rules.{rules}
use Rattle.try_row_report.proofs.is_disputed.Goals as goal

pub returns : goal.returns
unfolding disputed_in
returns c = search rules
