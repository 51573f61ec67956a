-- The first n events of a block are.
use native.Mathlib.Nat.{sub-zero}
use Rattle.plan_block.proofs.Events.{stops, goes_on_lem, ends}
use Rattle.plan_block.proofs.events_hold.Goals as goal

pub loop-i-init : goal.loop-i-init
loop-i-init c = rw sub-zero

pub returns-then-not-event_holds : goal.returns-then-not-event_holds
returns-then-not-event_holds c = search (stops)

pub loop-i-preserved : goal.loop-i-preserved
loop-i-preserved c = search (goes_on_lem)

pub returns : goal.returns
returns c = search (ends)
