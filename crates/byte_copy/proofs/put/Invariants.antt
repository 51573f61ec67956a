use Rattle.std.proofs.Common.{◌≡◌, ◌-◌, ◌≤◌, length, take}
use Rattle.model.specs.Bytes.{put_at}
use Rattle.byte_copy.proofs.put.Given as goal

abbrev pub invariant-loop-j : goal.invariant-loop-j
invariant-loop-j l = (l.j ≤ length l.src) × (length l.dst ≡ length l.initial.dst) × (l.dst ≡ put_at l.initial.dst l.at (take l.j l.src))

abbrev pub decreases-loop-j : goal.decreases-loop-j
decreases-loop-j l = length l.src - l.j
