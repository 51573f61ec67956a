-- The first n records are judged one after another, and noted up to the first that has a fault.
use Prim.Native.Nat.{◌-◌}
use mathlib.Core.Path.{◌≡◌}
use Rattle.log_check.specs.Places.{laid_at}
use Rattle.log_check.specs.InOrder.{first_fault, scan_from, scan_of}
use Rattle.log_check.proofs.Scans.{Passed}
use Rattle.log_check.proofs.scan.Given as goal

abbrev pub invariant-loop-i : goal.invariant-loop-i
invariant-loop-i l = (first_fault l.base.counts (laid_at l.layout l.bytes) l.i (l.n - l.i) ≡ first_fault l.base.counts (laid_at l.layout l.bytes) 0 l.n)
    × (scan_from l.base.counts (laid_at l.layout l.bytes) l.i (l.n - l.i) l.b.held.counts l.b.floor l.places l.seens ≡ scan_of l.base.counts (laid_at l.layout l.bytes) l.n l.initial.places l.initial.seens)
    × Passed l.base.counts (laid_at l.layout l.bytes) l.i l.b.held.counts l.b.floor l.places l.seens
