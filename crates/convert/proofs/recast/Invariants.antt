-- The first n blocks of so many records that stand in blocks are written anew, from a place of the lent file on.
use Prim.Native.Nat.{◌*◌}
use mathlib.Core.Path.{◌≡◌}
use lib.ListN.{length}
use Rattle.model.specs.Bytes.{put_at}
use Rattle.model.specs.File.{header_of, file_records}
use Rattle.run_model.specs.Runs.{run_to}
use Rattle.convert.proofs.recast.Given as goal

abbrev pub invariant-loop-k : goal.invariant-loop-k
invariant-loop-k l = (length l.out ≡ length l.initial.out) × (l.out ≡ put_at l.initial.out (512 * l.first) (run_to l.letters (header_of l.archive l.unit l.first l.v.counts) (file_records l.part) l.k))
