-- A settle: the aside that the object names is no longer open.
use Rattle.tree_lookup.proofs.Working.{works_long, works_reads}
use Rattle.tree_judge.proofs.Reasons.{object_range}
use Rattle.tree_amend.proofs.Amending.{nothing_settled, aside-settled}
use native.Mathlib.Omega.{arith}
use Rattle.tree_amend.proofs.settle.Goals as goal

pub role_of-role-requires : goal.role_of-role-requires
role_of-role-requires c = (search (works_reads), search (object_range))

pub returns-then-role-le1024 : goal.returns-then-role-le1024
returns-then-role-le1024 c = search (nothing_settled)

pub slice_bounds-settle_row-end : goal.slice_bounds-settle_row-end
slice_bounds-settle_row-end c = omega (arith, works_long _ _ _ _ _ c.requires.1)

pub returns : goal.returns
returns c = search (aside-settled)
