-- The index of the entries that a table shows.
use Rattle.index_make.proofs.make_index.Goals as goal

pub returns : goal.returns
returns c = cc
