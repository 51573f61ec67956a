-- A rename of the entry in a row: 12 for no entry, 17 for an unseen place, 15 for a label that another entry holds.
use Rattle.std.proofs.Common.{rules}
use Rattle.tree_lookup.proofs.Working.{works_long}
use Rattle.tree_judge.proofs.Reasons.{rename_absent, rename_unseen, rename_label}
use native.Mathlib.Omega.{arith}
use Rattle.tree_judge.proofs.judge_rename.Goals as goal

pub returns-in_default : goal.returns-in_default
returns-in_default c = search (rename_absent, c.in_default.ensures.absent, rules)

pub made_at-made-requires : goal.made_at-made-requires
made_at-made-requires c = (search (works_long), omega (arith, c.in-Some.ensures.within))

pub inside_at-inside-requires : goal.inside_at-inside-requires
inside_at-inside-requires c = (search (works_long), omega (arith, c.in-Some.ensures.within))

pub placing_at-requires : goal.placing_at-requires
placing_at-requires c = (search (works_long), omega (arith, c.in-Some.ensures.within))

pub returns-then-is_unseen : goal.returns-then-is_unseen
returns-then-is_unseen c = rw c.in-Some.ensures.kept (search (rename_unseen, c.in-Some.ensures.within))

pub returns : goal.returns
returns c = rw c.in-Some.ensures.kept (search (rename_label, c.in-Some.ensures.within))
