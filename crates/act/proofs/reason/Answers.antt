-- The same in a work memory that may hold anything before.
use mathlib.Core.Path.{refl}
use Rattle.act.proofs.Acting.{cleared}
use Rattle.act.proofs.reason.Goals as goal

pub reason_behind-requires : goal.reason_behind-requires
reason_behind-requires c = (search, search, search (cleared, c.fill.ensures.after (λ y e. e)), refl)
