-- The counts of a vector are numbers of 16 bits.
use Prim.Native.Nat.{ℕ, ◌<◌}
use lib.ListN.{get_or}
use Rattle.state_tree.proofs.small_counts.Given as goal

abbrev pub invariant-loop-u : goal.invariant-loop-u
invariant-loop-u l = ((j : ℕ) → j < l.u → get_or l.counts j 0 < 65536)
