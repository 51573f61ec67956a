use Rattle.std.proofs.Common.{◌≡◌, ◌≤◌, length}
use Rattle.model.specs.Bytes.{put_at}
use Rattle.model.specs.Vector.{count_bytes}
use Rattle.vector.proofs.put_vector.Given as goal

abbrev pub invariant-loop-u : goal.invariant-loop-u
invariant-loop-u l = (l.u ≤ 8) × (length l.dst ≡ length l.initial.dst) × (l.dst ≡ put_at l.initial.dst l.at (count_bytes l.v.counts l.u))
