-- The first of the second file's records that is one too many behind the used ones of the first.
use native.Mathlib.Nat.{sub-zero}
use Rattle.log_check.proofs.Scans.{laid_inside}
use Rattle.merge_check.proofs.Loops.{lent_unit, room_skip, room_stop, room_next, room_end}
use borrow.Author.Rules.{rules}
use native.Mathlib.Omega.{arith}
use Rattle.merge_check.proofs.room_fault.Goals as goal

pub loop-i-init : goal.loop-i-init
loop-i-init c = (omega arith, rw sub-zero)

pub slice_bounds-lacks-end : goal.slice_bounds-lacks-end
slice_bounds-lacks-end c = search (laid_inside)

pub lacks-requires : goal.lacks-requires
lacks-requires c = (search rules, search (lent_unit))

pub loop-i-preserved-then-not-lacks : goal.loop-i-preserved-then-not-lacks
loop-i-preserved-then-not-lacks c = (omega arith, search (room_skip))

pub returns-then-n-eq-LOG_PLACES : goal.returns-then-n-eq-LOG_PLACES
returns-then-n-eq-LOG_PLACES c = search (room_stop)

pub loop-i-preserved : goal.loop-i-preserved
loop-i-preserved c = (omega arith, search (room_next))

pub returns : goal.returns
returns c = search (room_end)
