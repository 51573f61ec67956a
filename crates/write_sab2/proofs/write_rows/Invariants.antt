-- The blocks of the rows are written from the beginning of the file on; their count is returned.
use Rattle.run_model.specs.Runs.{letters2, run_to}
use Rattle.model.specs.File.{header_of}
use Rattle.model.specs.Bytes.{put_at}
use lib.ListN.{length}
use mathlib.Core.Path.{◌≡◌}
use Prim.Native.Nat.{◌≤◌}
use Rattle.sab2_model.specs.Rows.{row_count, base_rows}
use Rattle.model.specs.Vector.{blocks_for}
use Rattle.write_sab2.proofs.write_rows.Given as goal

abbrev pub invariant-loop-k : goal.invariant-loop-k
invariant-loop-k l = (l.n ≤ 100) × (l.n ≡ blocks_for (row_count l.entries l.asides)) × (length l.file ≡ 95232)
    × (l.file ≡ put_at l.initial.file 0 (run_to letters2 (header_of l.archive l.unit 0 l.held.counts) (base_rows l.base) l.k))
