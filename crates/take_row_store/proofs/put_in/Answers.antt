-- The records that stand in work from the place start up to the place used are put in by rank among the records of a log, a
-- rising run at a time.
use Prim.Native.Nat.{◌-◌}
use mathlib.Core.Path.{refl}
use Rattle.take_row_store.proofs.Runs.{puts_starts, puts_ends, puts_ordered, puts_used, puts_room, puts_rising, puts_next, grown_from, grown_few}
use borrow.Author.Rules.{rules}
use native.Mathlib.Omega.{arith}
use Rattle.take_row_store.proofs.put_in.Goals as goal

pub loop-done-init : goal.loop-done-init
loop-done-init c = (omega arith, search (grown_from), search (grown_few), refl, search (puts_starts))

pub insert_records-requires : goal.insert_records-requires
insert_records-requires c = (search rules, search (puts_ordered), search (puts_used), search (puts_room), search rules, search (puts_rising))

pub loop-done-preserved : goal.loop-done-preserved
loop-done-preserved c = (omega arith, omega arith, omega arith, search rules, search (puts_next))

pub returns : goal.returns
returns c = search (puts_ends)
