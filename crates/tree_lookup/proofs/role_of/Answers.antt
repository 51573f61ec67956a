-- The role of an identity, looked for in its chain.
use Rattle.tree_lookup.proofs.Names.{trace_role, trace_low, trace_found, trace_goes, trace_ends}
use native.Mathlib.Omega.{arith}
use Rattle.tree_lookup.proofs.role_of.Goals as goal

pub name_at-requires : goal.name_at-requires
name_at-requires c = (search, search, search, search (trace_role))

pub returns-then-name_at-k : goal.returns-then-name_at-k
returns-then-name_at-k c = (search (trace_found), search (trace_low))

pub loop-q-preserved : goal.loop-q-preserved
loop-q-preserved c = search (trace_goes)

pub returns : goal.returns
returns c = (search (trace_ends), omega arith)
