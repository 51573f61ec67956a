-- The counts of the records before each of the n named cover what it has seen.
use Rattle.std.proofs.Common.{◌≡◌, ◌-◌, replicate}
use Rattle.log_check.specs.InOrder.{listed}
use Rattle.order_laws.specs.Marking.{covers_each}
use Rattle.order_names.specs.Named.{named_at}
use Rattle.order_seen.proofs.Running.{Low}
use Rattle.order_seen.proofs.seen_first.Given as goal

abbrev pub invariant-loop-i : goal.invariant-loop-i
invariant-loop-i l = Low l.had.counts l.i × (covers_each l.had.counts (listed (named_at l.log l.list l.places) l.i (l.n - l.i)) ≡ covers_each (replicate 8 0) (listed (named_at l.log l.list l.places) 0 l.n))
