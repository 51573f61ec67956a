-- The disputed entries of a table that were not noted are laid one behind another, in the order of the table; their count is
-- returned.
use mathlib.Core.Path.{refl}
use native.Mathlib.Omega.{arith}
use Rattle.try_row_report.proofs.Listing.{made_low, list_first, list_long, count_first, skips_count, skips_list, adds_count, adds_list, list_ends, list_whole}
use borrow.Author.Rules.{rules}
use Rattle.try_row_report.proofs.list_new.Goals as goal

pub loop-i-init : goal.loop-i-init
loop-i-init c = (search rules, omega arith, search (list_long), refl, search (count_first), search (list_first))

pub loop-i-preserved-then-not-is_new : goal.loop-i-preserved-then-not-is_new
loop-i-preserved-then-not-is_new c = (omega arith, omega arith, omega arith, omega arith, search (skips_count), search (skips_list))

pub made_at-requires : goal.made_at-requires
made_at-requires c = (search rules, search rules)

pub put_identity-requires : goal.put_identity-requires
put_identity-requires c = (search rules, search (made_low))

pub loop-i-preserved : goal.loop-i-preserved
loop-i-preserved c = (omega arith, omega arith, omega arith, omega arith, search (adds_count), search (adds_list))

pub returns-clause-counted : goal.returns-clause-counted
returns-clause-counted c = (search (list_ends), omega arith)

pub returns-clause-laid : goal.returns-clause-laid
returns-clause-laid c = search (list_whole)
