use Rattle.std.proofs.Common.{◌≡◌}
use Rattle.model.specs.Vector.{covers_to}
use Rattle.vector.proofs.covers.Given as goal

abbrev pub invariant-loop-u : goal.invariant-loop-u
invariant-loop-u l = (l.covered ≡ covers_to l.a.counts l.b.counts l.u)
