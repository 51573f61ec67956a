-- The tree of a sound state is laid in a lent table, which may hold anything before.
use mathlib.Core.Path.{refl}
use Rattle.show_tree.proofs.Shown.{zeroed}
use Rattle.show_tree.proofs.lay_tree.Goals as goal

pub fill_tree-requires : goal.fill_tree-requires
fill_tree-requires c = (search, search (zeroed, c.fill.ensures.after (λ y e. e)), refl)
