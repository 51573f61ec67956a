-- The row of the entry k, unless it is absent.
use Rattle.tree_lookup.proofs.Working.{entry_no_role, entry-aside, entry-removed, entry_found, works_long, works_reads, row_among_lem, row_within}
use native.Mathlib.Omega.{arith}
use borrow.Author.Rules.{rules}
use Rattle.tree_lookup.proofs.entry_of.Goals as goal

pub role_of-role-requires : goal.role_of-role-requires
role_of-role-requires c = (search (works_reads), search)

pub returns-then-role-eq0 : goal.returns-then-role-eq0
returns-then-role-eq0 c = record { row = search (rules, row_among_lem, entry_no_role); shows = search (entry_no_role); within = search rules }

pub returns-then-size-role : goal.returns-then-size-role
returns-then-size-role c = record { row = search (rules, row_among_lem, entry-aside); shows = search (entry-aside); within = search rules }

pub is_present-requires : goal.is_present-requires
is_present-requires c = (search (works_long), omega arith)

pub returns-then-not-is_present : goal.returns-then-not-is_present
returns-then-not-is_present c = record { row = search (rules, row_among_lem, entry-removed); shows = search (entry-removed); within = search rules }

pub returns : goal.returns
returns c = record { row = search (row_within, row_among_lem, entry_found); shows = search (entry_found); within = omega arith }
