-- The two sums over the 254 words of a block.
use Rattle.block_sums.proofs.Totals.{first_total_lem, weighted}
use mathlib.Core.Path.{◌≡◌}
use Prim.Native.Nat.{◌*◌, ◌≤◌}
use Rattle.block_sums.proofs.block_sums.Given as goal

abbrev pub invariant-loop-i : goal.invariant-loop-i
invariant-loop-i l = (l.first ≤ 65535 * l.i) × (l.second ≤ 16645890 * l.i) × (l.first ≡ first_total_lem l.b l.i) × (l.second ≡ weighted l.b 254 l.i)
