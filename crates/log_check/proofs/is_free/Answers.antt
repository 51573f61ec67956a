-- A place is all zero.
use mathlib.Core.Path.{sym}
use Rattle.byte_slice.proofs.Compare.{not_blank}
use Rattle.log_check.proofs.is_free.Goals as goal

pub returns-then-place-ne0 : goal.returns-then-place-ne0
returns-then-place-ne0 c = sym (not_blank _ 1 c.if-place-ne0.true)
