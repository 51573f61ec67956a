-- The blocks of the records are written behind the first blocks of the file; their count is returned.
use Rattle.run_model.specs.Runs.{letters2, run_to}
use Rattle.model.specs.File.{header_of}
use Rattle.model.specs.Bytes.{put_at}
use lib.ListN.{length}
use mathlib.Core.Path.{◌≡◌}
use Prim.Native.Nat.{◌*◌, ◌≤◌}
use Rattle.model.specs.Log.{records_of}
use Prim.Native.Nat.{◌+◌, ◌/◌}
use Rattle.write_sab2.proofs.write_records.Given as goal

abbrev pub invariant-loop-k : goal.invariant-loop-k
invariant-loop-k l = (l.n ≤ 86) × (l.n ≡ (l.used + 5) / 6) × (length l.file ≡ 95232)
    × (l.file ≡ put_at l.initial.file (512 * l.first) (run_to letters2 (header_of l.archive l.unit l.first l.held.counts) (records_of l.log) l.k))
