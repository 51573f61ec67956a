-- A vector does not count the record.
use Rattle.hand_out_pick.proofs.lacks.Goals as goal

pub returns : goal.returns
returns c = cc
