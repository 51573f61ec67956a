-- The events of a block that passed its checks happen one after another.
use native.Mathlib.Nat.{sub-zero}
use mathlib.Core.Path.{refl}
use Prim.Native.Nat.{◌-◌}
use Rattle.plan_round.proofs.Rounds.{few_events, event_at_lem, units_on, skipped_on, goes_on_lem, ends}
use borrow.Author.Rules.{rules}
use native.Mathlib.Omega.{arith}
use Rattle.plan_round.proofs.block.Goals as goal

pub loop-i-init : goal.loop-i-init
loop-i-init c = (search (few_events), search rules, omega arith, rw sub-zero)

pub event-tally-requires : goal.event-tally-requires
event-tally-requires c = (search rules, search rules, search rules, search (event_at_lem), search rules, search rules)

pub loop-i-preserved : goal.loop-i-preserved
loop-i-preserved c = (search rules, search (units_on, event_at_lem), search (skipped_on, event_at_lem), search (goes_on_lem, event_at_lem))

pub returns : goal.returns
returns c = search (ends)
