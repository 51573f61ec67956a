-- Block after block is written, then zeros; the count of blocks is returned.
use Rattle.model.specs.File.{file_to}
use Rattle.model.specs.Log.{records_of}
use lib.ListN.{length, drop}
use mathlib.Core.List.{◌++◌}
use mathlib.Core.Path.{◌≡◌}
use Prim.Native.Nat.{◌*◌, ◌≤◌}
use Rattle.write_file.proofs.write_blocks.Given as goal

abbrev pub invariant-loop-k : goal.invariant-loop-k
invariant-loop-k l = (l.n ≤ 86) × (l.used ≤ 512) × (length l.file ≡ 44032) × (l.file ≡ file_to l.archive l.unit (records_of l.log) l.k ++ drop (512 * l.k) l.initial.file)
