use Rattle.std.proofs.Common.{◌-◌, ◌≡◌, ◌≤◌}
use Rattle.file_reader.specs.Walk.{walked_to}
use Rattle.file_reader.proofs.walk.Given as goal

abbrev pub invariant-loop-r : goal.invariant-loop-r
invariant-loop-r l = (l.r.at ≤ l.total) × (l.r.src.now ≡ l.file) × (l.log ≡ walked_to l.initial.log l.file l.r.at)

abbrev pub decreases-loop-r : goal.decreases-loop-r
decreases-loop-r l = l.total - l.r.at
