-- The first of 6, 10 and 11 that holds of two files without a fault.
use Rattle.merge_check.proofs.Clash.{archives_differ, archives_same}
use Rattle.merge_check.proofs.union_fault.Goals as goal

pub returns-then-archive_of : goal.returns-then-archive_of
returns-then-archive_of c = search (archives_differ)

pub returns : goal.returns
returns c = search (archives_same)
