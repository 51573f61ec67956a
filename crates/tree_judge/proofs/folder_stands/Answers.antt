-- The folder f is the root, or is there and a folder: 13 if it is absent, 14 for a trace.
use Rattle.std.proofs.Common.{rules}
use Rattle.tree_lookup.proofs.Working.{works_long}
use Rattle.tree_judge.proofs.Reasons.{folder_root, folder_absent, folder_trace, folder_found}
use native.Mathlib.Omega.{arith}
use Rattle.tree_judge.proofs.folder_stands.Goals as goal

pub returns-then-f-eq0 : goal.returns-then-f-eq0
returns-then-f-eq0 c = search (folder_root)

pub returns-in_default : goal.returns-in_default
returns-in_default c = search (folder_absent, c.in_default.ensures.shows, rules)

pub is_folder-requires : goal.is_folder-requires
is_folder-requires c = (search (works_long), omega (arith, c.in-Some.ensures.within))

pub made_at-requires : goal.made_at-requires
made_at-requires c = (search (works_long), omega (arith, c.in-Some.ensures.within))

pub returns-then-not-is_folder : goal.returns-then-not-is_folder
returns-then-not-is_folder c = search (folder_trace, c.in-Some.ensures.shows, c.in-Some.ensures.within)

pub returns : goal.returns
returns c = search (folder_found, c.in-Some.ensures.shows, c.in-Some.ensures.within)
