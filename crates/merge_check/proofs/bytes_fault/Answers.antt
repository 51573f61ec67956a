-- The first of the second file's records that the first file has with other bytes.
use Rattle.log_check.proofs.Scans.{laid_inside}
use Rattle.merge_check.proofs.Loops.{lent_formed, bytes_stop, bytes_next, bytes_end}
use borrow.Author.Rules.{rules}
use Rattle.merge_check.proofs.bytes_fault.Goals as goal

pub slice_bounds-clashes-end : goal.slice_bounds-clashes-end
slice_bounds-clashes-end c = search (laid_inside)

pub clashes-requires : goal.clashes-requires
clashes-requires c = (search rules, search (lent_formed), search rules, search rules)

pub returns-then-clashes : goal.returns-then-clashes
returns-then-clashes c = search (bytes_stop)

pub loop-i-preserved : goal.loop-i-preserved
loop-i-preserved c = search (bytes_next)

pub returns : goal.returns
returns c = search (bytes_end)
