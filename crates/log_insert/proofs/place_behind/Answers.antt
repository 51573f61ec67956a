-- The place behind the last of the first n records that ranks no higher than k.
use Rattle.log_insert.proofs.Ranked.{behind_stops, behind-next, behind-none}
use native.Mathlib.Omega.{arith}
use Rattle.log_insert.proofs.place_behind.Goals as goal

pub returns-then-rank_of-k : goal.returns-then-rank_of-k
returns-then-rank_of-k c = (search (behind_stops), omega arith)

pub loop-i-preserved : goal.loop-i-preserved
loop-i-preserved c = search (behind-next)

pub returns : goal.returns
returns c = (search (behind-none), omega arith)
