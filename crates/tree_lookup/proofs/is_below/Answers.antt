-- The folder f is the entry k or lies below it.
use Rattle.tree_lookup.proofs.Working.{works_long}
use Rattle.tree_lookup.proofs.Below.{below_starts, below_ends, below_here, below_root, below_absent, below_goes, identity_in}
use Rattle.std.proofs.Common.{rules}
use native.Mathlib.Omega.{arith}
use Rattle.tree_lookup.proofs.is_below.Goals as goal

pub loop-step-init : goal.loop-step-init
loop-step-init c = search (below_starts)

pub returns-then-at-k : goal.returns-then-at-k
returns-then-at-k c = search (below_here)

pub returns-then-not-is_identity : goal.returns-then-not-is_identity
returns-then-not-is_identity c = search (below_root)

pub entry_of-requires : goal.entry_of-requires
entry_of-requires c = (search, search (identity_in))

pub returns-in_default : goal.returns-in_default
returns-in_default c = search (below_absent, c.in_default.ensures.shows, rules)

pub inside_at-at-requires : goal.inside_at-at-requires
inside_at-at-requires c = (search (works_long), omega (arith, c.in-Some.ensures.within))

pub loop-step-preserved : goal.loop-step-preserved
loop-step-preserved c = search (below_goes, c.in-Some.ensures.shows, c.in-Some.ensures.within)

pub returns : goal.returns
returns c = search (below_ends)
