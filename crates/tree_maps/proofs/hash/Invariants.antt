-- The chain of a label in the folder f.
use Prim.Native.Nat.{◌≤◌, ◌-◌, ◌*◌}
use mathlib.Core.Path.{◌≡◌}
use Rattle.tree_maps.specs.Keys.{weights, weighed}
use Rattle.tree_maps.proofs.hash.Given as goal

abbrev pub invariant-loop-i : goal.invariant-loop-i
invariant-loop-i l = (l.i ≤ 32) × (l.by ≡ weights) × (l.sum ≡ weighed l.i l.label) × (l.sum ≤ 1015777 * l.i)

abbrev pub decreases-loop-i : goal.decreases-loop-i
decreases-loop-i l = 32 - l.i
