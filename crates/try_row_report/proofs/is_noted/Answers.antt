-- The identity k is one of the first `count` noted.
use Rattle.try_row_report.proofs.Listing.{among_none, among_found, among_passes, among_ends}
use Rattle.try_row_report.proofs.is_noted.Goals as goal

pub loop-i-init : goal.loop-i-init
loop-i-init c = search (among_none)

pub returns-then-notes-i : goal.returns-then-notes-i
returns-then-notes-i c = search (among_found)

pub loop-i-preserved : goal.loop-i-preserved
loop-i-preserved c = search (among_passes)

pub returns : goal.returns
returns c = search (among_ends)
