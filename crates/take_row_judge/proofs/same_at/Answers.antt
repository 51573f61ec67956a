-- The record at a place has the bytes of rec.
use Rattle.take_row_judge.proofs.Laid.{same_at}
use Rattle.take_row_judge.proofs.same_at.Goals as goal

pub returns : goal.returns
returns c = search (same_at)
