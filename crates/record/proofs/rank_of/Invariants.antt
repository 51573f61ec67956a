-- The sum of the eight seen counts, then the unit.
use Prim.Native.Nat.{◌*◌, ◌≤◌}
use mathlib.Core.Path.{◌≡◌}
use Rattle.model.specs.Record.{seen}
use Rattle.model.specs.Log.{sum_to}
use Rattle.record.proofs.rank_of.Given as goal

abbrev pub invariant-loop-u : goal.invariant-loop-u
invariant-loop-u l = (l.sum ≤ 65535 * l.u) × (l.sum ≡ sum_to l.u (seen l.rec))
