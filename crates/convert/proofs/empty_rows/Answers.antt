-- The block of the one row of an empty base.
use Rattle.convert.proofs.Raised.{empty_block}
use Rattle.convert.proofs.empty_rows.Goals as goal

pub returns : goal.returns
returns c = search (empty_block)
