-- The first n records are judged one after another, and noted up to the first that has a fault.
use native.Mathlib.Nat.{sub-zero}
use borrow.Author.Rules.{rules}
use Rattle.refusal.proofs.Refusals.{not_zero}
use Rattle.log_check.proofs.Scans.{passed_none, passed_placed, passed_spare, left-none, left_ends, laid_inside, scan_stops, scan_left, scan_more, scan_first, scan_passed, scan_ends}
use Rattle.log_check.proofs.scan.Goals as goal

pub loop-i-init : goal.loop-i-init
loop-i-init c = (rw sub-zero, search (left-none), search (passed_none, rules))

pub slice_bounds-admit-end : goal.slice_bounds-admit-end
slice_bounds-admit-end c = search (laid_inside)

pub admit-requires : goal.admit-requires
admit-requires c = (search rules, search rules, search rules, search rules, search (passed_placed), search (passed_spare))

pub returns-in-Err-clause-outright : goal.returns-in-Err-clause-outright
returns-in-Err-clause-outright c = search (scan_left, not_zero, c.in-Err.ensures)

pub returns-in-Err-clause-gives : goal.returns-in-Err-clause-gives
returns-in-Err-clause-gives c = search (scan_stops, not_zero, c.in-Err.ensures)

pub loop-i-preserved : goal.loop-i-preserved
loop-i-preserved c = (search (scan_first, c.in-Ok.ensures), search (scan_more, c.in-Ok.ensures), search (scan_passed, c.in-Ok.ensures))

pub returns-clause-outright : goal.returns-clause-outright
returns-clause-outright c = search (left_ends)

pub returns-clause-gives : goal.returns-clause-gives
returns-clause-gives c = search (scan_ends)
