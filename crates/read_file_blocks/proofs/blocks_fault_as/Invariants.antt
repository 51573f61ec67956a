-- The first fault of the n blocks of a file with these letters and so many rows, with the place of its block.
use Rattle.run_model.specs.Blocks.{blocks_fault_as}
use mathlib.Core.Path.{◌≡◌}
use Prim.Native.Nat.{◌-◌}
use Rattle.read_file_blocks.proofs.blocks_fault_as.Given as goal

abbrev pub invariant-loop-k : goal.invariant-loop-k
invariant-loop-k l = blocks_fault_as l.letters l.rows l.file l.k (l.n - l.k) ≡ blocks_fault_as l.letters l.rows l.file 0 l.n
