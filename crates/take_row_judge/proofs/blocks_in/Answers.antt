-- How many blocks a row has.
use Rattle.model.specs.File.{blocks_in}
use borrow.Author.Rules.{rules}
use Rattle.take_row_judge.proofs.blocks_in.Goals as goal

pub returns : goal.returns
unfolding blocks_in
returns c = search rules
