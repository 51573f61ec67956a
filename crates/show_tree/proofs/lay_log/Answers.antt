-- The tree of the n records of a sound log that stands alone is laid in a lent table, which may hold anything before.
use mathlib.Core.Path.{refl}
use Rattle.show_tree.proofs.Shown.{zeroed}
use Rattle.show_tree.proofs.lay_log.Goals as goal

pub fill_log-requires : goal.fill_log-requires
fill_log-requires c = (search, search, search, search (zeroed, c.fill.ensures.after (λ y e. e)), refl)
