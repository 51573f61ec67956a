-- How many places stand before the first that is all zero.
use Rattle.log_check.proofs.Sound.{used_none, used_stops, used_next, used_ends}
use native.Mathlib.Omega.{arith}
use Rattle.log_check.proofs.used.Goals as goal

pub loop-i-init : goal.loop-i-init
loop-i-init c = search (used_none)

pub returns-then-is_free : goal.returns-then-is_free
returns-then-is_free c = (search (used_stops), omega arith)

pub loop-i-preserved : goal.loop-i-preserved
loop-i-preserved c = search (used_next)

pub returns : goal.returns
returns c = (search (used_ends), omega arith)
