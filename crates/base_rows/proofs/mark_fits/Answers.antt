-- The mark of a folder is zero.
use Rattle.base_rows.proofs.Tests.{mark_any, mark_zero}
use Rattle.base_rows.proofs.mark_fits.Goals as goal

pub returns-then-s-at-eq2 : goal.returns-then-s-at-eq2
returns-then-s-at-eq2 c = search (mark_any)

pub returns : goal.returns
returns c = search (mark_zero)
