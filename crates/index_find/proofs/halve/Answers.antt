-- The first of n places that a test does not say to come before, by halving.
use Rattle.index_laws.proofs.Halving.{seek_stops, seek-done, seek_up, seek_down}
use Rattle.std.proofs.Common.{ℕ, ◌≡◌, ◌+◌, ◌-◌, ◌/◌, arith}
use Rattle.index_find.proofs.halve.Goals.{then-before, else-before}
use Rattle.index_find.proofs.halve.Goals as goal

pub returns-then-hi-lo-clause-halved : goal.returns-then-hi-lo-clause-halved
returns-then-hi-lo-clause-halved g c = λ p h. let v = c.loop.invariant.2 p h in search (seek_stops)

pub loop-preserved : goal.loop-preserved
loop-preserved g c = (
  elim c.if-before.branch [ then-before w ↦ omega arith | else-before w ↦ omega arith ],
  elim c.if-before.branch [ then-before w ↦ omega arith | else-before w ↦ omega arith ],
  λ p h.
      let v = c.loop.invariant.2 p h in
      let mid : ℕ = c.loop.lo + (c.loop.hi - c.loop.lo) / 2 in
      let e : c.before-in-loop.result ≡ p mid = h mid c.before-in-loop.result (omega arith) c.before-in-loop.ensures in
      elim c.if-before.branch [ then-before w ↦ search (seek_up) | else-before w ↦ search (seek_down) ],
)

pub returns-clause-halved : goal.returns-clause-halved
returns-clause-halved g c = λ p h. let v = c.loop.invariant.2 p h in search (seek-done)
