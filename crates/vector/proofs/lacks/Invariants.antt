use Rattle.std.proofs.Common.{◌≡◌, ◌*◌, ◌≤◌}
use Rattle.model.specs.Vector.{lacks_to}
use Rattle.vector.proofs.lacks.Given as goal

abbrev pub invariant-loop-u : goal.invariant-loop-u
invariant-loop-u l = (l.sum ≤ 65535 * l.u) × (l.sum ≡ lacks_to l.a.counts l.b.counts l.u)
