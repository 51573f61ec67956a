-- The tree of a sound state is laid in a table of zeros, by a register of zeros.
use Rattle.show_tree.proofs.Shown.{laid}
use Rattle.tree_lookup.proofs.Working.{works_holds}
use Rattle.show_tree.proofs.fill_tree.Goals as goal

pub finish-requires : goal.finish-requires
finish-requires c = search (works_holds)

pub returns : goal.returns
returns c = search (laid)
