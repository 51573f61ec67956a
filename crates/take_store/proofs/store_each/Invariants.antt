-- The n records of a block that passed are stored, one after another.
use mathlib.Core.Path.{◌≡◌}
use lib.ListN.{length}
use Rattle.model.specs.Log.{records_of}
use Rattle.model.specs.Block.{record_at}
use Rattle.take_beside.specs.Judging.{after_to}
use Rattle.take_store.specs.Stored.{Stored}
use Rattle.take_store.proofs.store_each.Given as goal

abbrev pub invariant-loop-j : goal.invariant-loop-j
invariant-loop-j l = (length l.log ≡ length l.initial.log) × Stored l.base.counts (after_to l.list l.base.counts (records_of l.initial.log) (record_at l.b) l.j) l.log l.stored.used l.stored.held.counts
