-- The record k is above the count of its unit that a record has seen.
use Rattle.model.specs.Replay.{unseen}
use Rattle.model.specs.Record.{seen}
use Rattle.tree_judge.proofs.is_unseen.Goals as goal

pub returns : goal.returns
unfolding unseen seen
returns c = cc
