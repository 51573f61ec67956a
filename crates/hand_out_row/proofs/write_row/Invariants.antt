-- The records are gathered in the row itself, block after block is written before them, then zeros; the count of blocks is
-- returned.
use Rattle.model.specs.Bytes.{padded, joined}
use Rattle.model.specs.Log.{records_of, lacking}
use Rattle.row_model.specs.Row.{row_to}
use lib.ListN.{length, drop}
use mathlib.Core.List.{◌++◌}
use mathlib.Core.Path.{◌≡◌}
use Prim.Native.Nat.{◌*◌, ◌≤◌}
use Rattle.hand_out_row.proofs.write_row.Given as goal

abbrev pub invariant-loop-k : goal.invariant-loop-k
invariant-loop-k l = (l.n ≤ 86) × (length l.out ≡ 44032) × (length l.initial.out ≡ 44032) × (drop 3072 l.initial.out ≡ padded 40960 (joined (lacking l.asked.counts (records_of l.log)))) × (l.out ≡ row_to l.archive l.unit l.state.held.counts (lacking l.asked.counts (records_of l.log)) l.k ++ drop (512 * l.k) l.initial.out)
