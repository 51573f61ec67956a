-- For each unit u with count c above the base vector's, the seen of record u.c is nowhere above s.
use Prim.Native.Nat.{◌<◌}
use mathlib.Core.Path.{◌≡◌}
use mathlib.Core.Bool.{true}
use Rattle.model.specs.Vector.{covers_to}
use Rattle.model.specs.Log.{all_to}
use Rattle.log_closure.specs.Tables.{row_at, unit_closed}
use Rattle.log_closure.proofs.is_closed.Given as goal

abbrev pub invariant-loop-v : goal.invariant-loop-v
invariant-loop-v l = (l.closed ≡ l.initial.closed) × (l.p < 518) × (covers_to l.s.counts (row_at l.seens l.p) l.v ≡ true)

abbrev pub invariant-units : goal.invariant-units
invariant-units l = (l.closed ≡ true) × (all_to l.u (unit_closed l.base.counts l.places l.seens l.s.counts) ≡ true)
