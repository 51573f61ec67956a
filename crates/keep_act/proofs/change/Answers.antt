-- The same in a work memory that may hold anything before.
use mathlib.Core.Path.{refl}
use Rattle.act.proofs.Acting.{cleared}
use Rattle.keep_act.proofs.change.Goals as goal

pub change_behind-requires : goal.change_behind-requires
change_behind-requires c = (search, search, search, search, search (cleared, c.fill.ensures.after (λ y e. e)), refl)
