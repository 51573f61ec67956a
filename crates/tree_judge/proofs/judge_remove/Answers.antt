-- A remove of the entry in a row: 12 for no entry, 16 for a folder with entries, 17 for unseen contents or place.
use native.Mathlib.Omega.{arith}
use Rattle.std.proofs.Common.{rules}
use Rattle.tree_lookup.proofs.Working.{works_long}
use Rattle.tree_judge.proofs.Reasons.{remove_absent, remove_full, remove_unseen, remove_fits}
use Rattle.tree_judge.proofs.judge_remove.Goals as goal

pub returns-in_default : goal.returns-in_default
returns-in_default c = search (remove_absent, c.in_default.ensures.absent, rules)

pub made_at-made-requires : goal.made_at-made-requires
made_at-made-requires c = (search (works_long), omega (arith, c.in-Some.ensures.within))

pub is_full-requires : goal.is_full-requires
is_full-requires c = (search (works_long), search, omega (arith, c.in-Some.ensures.within))

pub returns-then-is_full : goal.returns-then-is_full
returns-then-is_full c = rw c.in-Some.ensures.kept (search (remove_full, c.in-Some.ensures.within))

pub is_changed-requires : goal.is_changed-requires
is_changed-requires c = (search, search (works_long), omega (arith, c.in-Some.ensures.within))

pub returns-then-is_changed : goal.returns-then-is_changed
returns-then-is_changed c = rw c.in-Some.ensures.kept (search (remove_unseen, c.in-Some.ensures.within))

pub returns : goal.returns
returns c = rw c.in-Some.ensures.kept (search (remove_fits, c.in-Some.ensures.within))
